-- Structured code and how it is flattened.
pub mod Tree  -- trees, their labels and sizes, their records
