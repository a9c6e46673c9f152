-- What the parts of an order's answer are measured by.
pub mod After  -- how many bindings the context has after an order
