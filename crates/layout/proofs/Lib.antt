pub mod Placing  -- positions, operands and ids
