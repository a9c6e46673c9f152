-- What the context's bytes say after each order.
pub mod Bindings  -- a list is accepted where it is whole bindings
pub mod KindsAfter  -- which variables are integers
pub mod ValueKinds  -- the kinds of values joined, split and copied
pub mod After  -- the context after each order
