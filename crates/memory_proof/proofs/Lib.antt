-- What the trees of memory.rs do to the abstract heap.
pub mod Shown  -- the heap that a configuration's words show
pub mod Variables  -- the variables of a context as cells
pub mod Erasing  -- a pointer erased, and the children of HEAP's block
pub mod Attempting  -- a run that may fault for a reason
pub mod Acquiring  -- a block taken
pub mod Storing  -- values into the fields of HEAP's block
pub mod StoringBlock  -- a block written whole and taken
pub mod Sizes  -- how many blocks an object has
pub mod StoringObject  -- a store of one value or more
pub mod StoreOrder  -- a store of any number of values performs the order
pub mod Sharing  -- a pointer shared
pub mod ReachedBlocks  -- what pointers lead to may be followed
pub mod DropOrder  -- a drop performs the order, and a share what copies ask
pub mod Loading  -- values out of the fields of a block
pub mod LoadingBlock  -- one block loaded
pub mod LoadingOthers  -- the blocks before the last
pub mod LoadingObject  -- all blocks of an object
pub mod LoadedObject  -- a load of one value or more
pub mod LoadOrder  -- a load of any number of values performs the order
