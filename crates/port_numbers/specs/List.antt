-- A listing's answer, told as numbers.
use Rattle.listing.specs.declared.NotListed.{NotListed}
use Rattle.std.specs.Prelude.{ℕ, List, Result}
use Rattle.listing.specs.Listing.{listing_cause}
use Rattle.port_numbers.specs.Numbers.{numbers_in}

-- a listing's answer; accepted, its value is the number of bytes written
abbrev pub listed_numbers : Result ℕ NotListed → List ℕ
listed_numbers r = numbers_in (listing_cause r)
