-- The instructions that are read from a list of bytes which the check accepts are well formed.
use Rattle.std.specs.Prelude.{Ok}
use Prim.Native.Nat.{ℕ, zero, suc, ◌+◌, ◌*◌, ◌≤◌, ◌<◌, min}
use mathlib.Core.Path.{◌≡◌, sym, ap, ◌∙◌}
use mathlib.Core.Bool.{true, ◌&&◌}
use mathlib.Core.List.{List}
use native.Mathlib.Omega.{arith}
use lib.Dec.{ltb}
use lib.ListN.{drop}
use lib.Seq.{drop-drop}
use Rattle.records.specs.Checked.{first_bad, places, checked}
use Rattle.records.specs.Codes.{fields_of}
use Rattle.records.specs.Instructions.{fields_in, fields_ok, code_starts, checked_codes}
use Rattle.records.specs.ReadBack.{Each, Bytes, WellFormedCode, items, code_in}
use Rattle.records.proofs.Checking.{passed, all_checked, good_within}
use Rattle.records.proofs.CodesBack.{fields_code}
use Rattle.records.proofs.CodesRead.{starts_ok, starts_whole}
use Rattle.records.proofs.Conditions.{and_right}
use Rattle.records.proofs.Digits.{number_below}
use Rattle.records.proofs.Each.{each_drop}

read_formed : (s : List ℕ) → code_starts s ≡ true → Bytes s → WellFormedCode (code_in s)
unfolding fields_in
read_formed s e b =
    let ok : fields_ok (fields_in s) ≡ true = starts_ok s e in
    let same : fields_of (code_in s) ≡ fields_in s = fields_code (fields_in s) ok in
    let long = starts_whole s e in
    record {
      label_fits = rw same (number_below s b 4 4 (omega arith));
      offset_fits = rw same (number_below s b 8 8 (omega arith));
      value_fits = rw same (number_below s b 8 16 (omega arith));
      ok = rw same ok;
    }

each_read : (limit m : ℕ) (s : List ℕ) → Bytes s → (n k : ℕ) → first_bad code_starts 24 limit s k n ≡ Ok m → Each WellFormedCode (items 24 code_in n (drop (24 * k) s))
unfolding first_bad
each_read limit m s b zero k e = tt
each_read limit m s b (suc n) k e =
    let t = drop (24 * k) s in
    let p = passed (ltb k limit && code_starts t) (first_bad code_starts 24 limit s (suc k) n) (suc k) e in
    let i : 24 * suc k ≡ 24 * k + 24 = omega arith in
    let next : drop (24 * suc k) s ≡ drop 24 t = ap (λ (j : ℕ). drop j s) i ∙ sym (drop-drop 24 (24 * k) s) in
    (read_formed t (and_right (ltb k limit) (code_starts t) p.0) (each_drop (λ x. x < 256) (24 * k) s b), rw next at (each_read limit m s b n (suc k) p.1))

-- and they are no more than the limit
pub codes_formed : (most k : ℕ) (s : List ℕ) → Bytes s → checked_codes most s ≡ Ok k → Each WellFormedCode (items 24 code_in k s) × (k ≤ most)
unfolding checked
codes_formed most k s b e =
    let limit : ℕ = min most 65536 in
    let n : k ≡ 0 + places 24 s = all_checked code_starts 24 limit s 0 (places 24 s) k e in
    let z : 0 + places 24 s ≡ places 24 s = omega arith in
    let w : k ≤ limit = (good_within code_starts 24 limit s (λ t p. starts_whole t p) 0 (places 24 s) k e (omega arith) (omega arith)).0 in
    (rw (n, z) (each_read limit k s b (places 24 s) 0 e), omega arith)
