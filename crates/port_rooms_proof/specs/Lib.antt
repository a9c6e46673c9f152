-- The sizes of buffers, and the claims on them.
pub mod Sizes  -- how many records an order has at most, and the sizes that the header recommends
pub mod Claims  -- that they are enough, and that nothing less is
