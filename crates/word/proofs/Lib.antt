pub mod Arithmetic  -- the signed quotient and remainder
