-- One order played on a channel, and a list of orders taken apart.
pub mod Playing  -- what an order does to a channel
pub mod Lists  -- the orders in a list of bytes
