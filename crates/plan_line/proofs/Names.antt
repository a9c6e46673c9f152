-- Words that a match tells by their length and bytes.
use Prim.Native.Nat.{ℕ}
use mathlib.Core.Path.{◌≡◌, refl, sym, ◌∙◌}
use mathlib.Core.Bool.{Bool, true, false}
use mathlib.Core.List.{List}
use lib.ListN.{length}
use Rattle.std.specs.Prelude.{Err, Ok, None, Some}
use Rattle.std.proofs.lemmas.Slice.Eq.{HasBytesAt, bytes_eq-Decides, text_from_reads}
use Rattle.records.specs.declared.order.Calculation.TheVariants.{Add, Sub, Mul, Div, Rem}
use Rattle.plan_line.specs.declared.wrong.Wrong.TheVariants.{NoSuchOperation}
use Rattle.plan_line.specs.declared.orders.Name.TheVariants.{PutName, ComputeName, CopyName, DropName, StoreName, LoadName, PrintName}
use Rattle.text.specs.Text.{ascii}
use Rattle.plan_line.specs.Words.{same_bytes}
use Rattle.plan_line.specs.Orders.{name_of, operator_of, is_kind}
use Rattle.plan_line.proofs.Same.{same_is_equal}

-- the word has the length and the bytes of a name
abbrev pub Reads : List ℕ → List ℕ → Type 0
Reads w n = (length w ≡ length n) × HasBytesAt w 0 n

pub reads : {w : List ℕ} (n : List ℕ) → Reads w n → w ≡ n
reads {w} n h = text_from_reads w n h.0 h.1

has : (w n : List ℕ) → w ≡ n → Reads n n → Reads w n
has w n e h = rw e h

not_true : (x : Bool) → (x ≡ true → ⊥) → x ≡ false
not_true true h = absurd (h refl)
not_true false h = refl

pub other : (w n : List ℕ) → Reads n n → (Reads w n → ⊥) → same_bytes w n ≡ false
other w n r h = not_true (same_bytes w n) (λ e. h (has w n ((bytes_eq-Decides w n).0 (sym (same_is_equal w n) ∙ e)) r))

module _ (w : List ℕ) where
  pub is_put : Reads w (ascii "put") → Some PutName ≡ name_of w
  unfolding name_of same_bytes
  is_put h = rw (reads (ascii "put") h)

  pub is_compute : Reads w (ascii "compute") → Some ComputeName ≡ name_of w
  unfolding name_of same_bytes
  is_compute h = rw (reads (ascii "compute") h)

  pub is_copy : Reads w (ascii "copy") → Some CopyName ≡ name_of w
  unfolding name_of same_bytes
  is_copy h = rw (reads (ascii "copy") h)

  pub is_drop : Reads w (ascii "drop") → Some DropName ≡ name_of w
  unfolding name_of same_bytes
  is_drop h = rw (reads (ascii "drop") h)

  pub is_store : Reads w (ascii "store") → Some StoreName ≡ name_of w
  unfolding name_of same_bytes
  is_store h = rw (reads (ascii "store") h)

  pub is_load : Reads w (ascii "load") → Some LoadName ≡ name_of w
  unfolding name_of same_bytes
  is_load h = rw (reads (ascii "load") h)

  pub is_print : Reads w (ascii "print") → Some PrintName ≡ name_of w
  unfolding name_of same_bytes
  is_print h = rw (reads (ascii "print") h)

  pub no_name : ¬ (Reads w (ascii "put")) → ¬ (Reads w (ascii "compute")) → ¬ (Reads w (ascii "copy")) → ¬ (Reads w (ascii "drop")) → ¬ (Reads w (ascii "store")) → ¬ (Reads w (ascii "load")) → ¬ (Reads w (ascii "print")) → None ≡ name_of w
  unfolding name_of
  no_name h0 h1 h2 h3 h4 h5 h6 = rw (other w (ascii "put") (refl, (refl, (refl, (refl, tt)))) h0, other w (ascii "compute") (refl, (refl, (refl, (refl, (refl, (refl, (refl, (refl, tt)))))))) h1, other w (ascii "copy") (refl, (refl, (refl, (refl, (refl, tt))))) h2, other w (ascii "drop") (refl, (refl, (refl, (refl, (refl, tt))))) h3, other w (ascii "store") (refl, (refl, (refl, (refl, (refl, (refl, tt)))))) h4, other w (ascii "load") (refl, (refl, (refl, (refl, (refl, tt))))) h5, other w (ascii "print") (refl, (refl, (refl, (refl, (refl, (refl, tt)))))) h6)

module _ (w : List ℕ) where
  pub is_add : Reads w (ascii "add") → Ok Add ≡ operator_of w
  unfolding operator_of same_bytes
  is_add h = rw (reads (ascii "add") h)

  pub is_sub : Reads w (ascii "sub") → Ok Sub ≡ operator_of w
  unfolding operator_of same_bytes
  is_sub h = rw (reads (ascii "sub") h)

  pub is_mul : Reads w (ascii "mul") → Ok Mul ≡ operator_of w
  unfolding operator_of same_bytes
  is_mul h = rw (reads (ascii "mul") h)

  pub is_div : Reads w (ascii "div") → Ok Div ≡ operator_of w
  unfolding operator_of same_bytes
  is_div h = rw (reads (ascii "div") h)

  pub is_rem : Reads w (ascii "rem") → Ok Rem ≡ operator_of w
  unfolding operator_of same_bytes
  is_rem h = rw (reads (ascii "rem") h)

  pub no_operation : ¬ (Reads w (ascii "add")) → ¬ (Reads w (ascii "sub")) → ¬ (Reads w (ascii "mul")) → ¬ (Reads w (ascii "div")) → ¬ (Reads w (ascii "rem")) → Err NoSuchOperation ≡ operator_of w
  unfolding operator_of
  no_operation h0 h1 h2 h3 h4 = rw (other w (ascii "add") (refl, (refl, (refl, (refl, tt)))) h0, other w (ascii "sub") (refl, (refl, (refl, (refl, tt)))) h1, other w (ascii "mul") (refl, (refl, (refl, (refl, tt)))) h2, other w (ascii "div") (refl, (refl, (refl, (refl, tt)))) h3, other w (ascii "rem") (refl, (refl, (refl, (refl, tt)))) h4)

module _ (w : List ℕ) where
  pub is_e : Reads w (ascii "e") → true ≡ is_kind w
  unfolding is_kind same_bytes
  is_e h = rw (reads (ascii "e") h)

  pub is_l : Reads w (ascii "l") → true ≡ is_kind w
  unfolding is_kind same_bytes
  is_l h = rw (reads (ascii "l") h)

  pub no_kind : ¬ (Reads w (ascii "e")) → ¬ (Reads w (ascii "l")) → false ≡ is_kind w
  unfolding is_kind
  no_kind h0 h1 = rw (other w (ascii "e") (refl, (refl, tt)) h0, other w (ascii "l") (refl, (refl, tt)) h1)
