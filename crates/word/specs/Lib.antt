-- What the contracts of `word` cite, and the claims on operations.
pub mod Words  -- sums, products, quotients and signed order of 64-bit words
pub mod Results  -- what add, sub, mul, div and rem give, and where
