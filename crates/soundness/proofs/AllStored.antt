-- So many puts, and a store of all that they made, in any shape: the claim holds of them, and the store is accepted.
use Rattle.std.specs.Prelude.{Err, Ok}
use Prim.Native.Nat.{ℕ, zero, suc, ◌+◌, ◌*◌, ◌-◌, ◌≤◌, ◌<◌}
use mathlib.Core.Bool.{Bool, true, false, cond}
use mathlib.Core.List.{List, [], ◌∷◌}
use mathlib.Core.Path.{◌≡◌, refl, ◌∙◌, ap}
use native.Mathlib.Omega.{arith}
use lib.Dec.{eqb}
use lib.ListN.{length, length-append}
use borrow.Author.Tests.{ne_eqb, le-ltb, le-leb, lt-leb}
use Rattle.records.specs.declared.binding.Kind.TheVariants.{Ext}
use Rattle.records.specs.declared.order.Order.{Order}
use Rattle.records.specs.declared.order.Order.TheVariants.{Put, Store}
use Rattle.records.specs.Bytes.{le, number}
use Rattle.records.specs.Contexts.{binding_bytes, checked_context}
use Rattle.records.specs.Orders.{order_bytes, order_in, order_of, order_readers, order_ok, order_operands_ok, used_by_order, order_starts}
use Rattle.records.proofs.Conditions.{never, both_ways}
use Rattle.records.specs.Names.{last_label}
use Rattle.trees.specs.Tree.{Tree, labels, size}
use Rattle.layout.specs.declared.config.Shape.{Shape}
use Rattle.layout.specs.Config.{Supported, positions, most_variables}
use Rattle.heap.specs.Values.{integer, Values, nil, cons, count_of, appended}
use Rattle.memory.specs.Objects.{snd, ext_in, object_sizes}
use Rattle.memory.proofs.Sizes.{object_records, immediate_size, store_object_records}
use Rattle.order_context_proof.proofs.Bindings.{good_none, good_length}
use Rattle.order_spec.specs.declared.answer.OrderRefusal.TheVariants.{Position}
use Rattle.order_spec.specs.Answered.{Asked, order_is, order_accepted, order_answer_cause, order_granted, decided, answer_to}
use Rattle.order_spec.specs.Plain.{plainly}
use Rattle.order_spec.specs.Writes.{made, tree_of, context_after, present, kinds_ok, asked}
use Rattle.order_spec.proofs.Accepting.{all_passed, all_judged}
use Rattle.soundness.specs.Claims.{Item, reached, values, acquired, AllOwed, After, HeapStaysSoundOnAcquired}
use Rattle.soundness.specs.Example.{put_seven}
use Rattle.soundness.proofs.Induction.{heap_stays_sound_on_acquired}
use Rattle.soundness.specs.Puts.{puts, sevens}
use Rattle.channel_step.specs.Playing.{is_accepted}

count_sevens : (n : ℕ) → count_of (sevens n) ≡ n
count_sevens zero = refl
count_sevens (suc n) = ap suc (count_sevens n)

one_more : (n : ℕ) → appended (sevens n) (cons (integer 7) nil) ≡ sevens (suc n)
one_more zero = refl
one_more (suc n) = ap (λ (vs : Values). cons (integer 7) vs) (one_more n)

-- records and a context that fit are granted
fitting : (q : Asked) (t : Tree) (after : List ℕ) → q.counter + labels t ≤ last_label → 24 * size t ≤ q.records_room → length after ≤ q.context_room → order_accepted (order_granted q t after) ≡ true
fitting q t after l r c = rw (le-ltb last_label (q.counter + labels t) l, le-ltb q.records_room (24 * size t) r, le-ltb q.context_room (length after) c)

made_long : (k : ℕ) → length (made Ext k) ≡ 8
unfolding binding_bytes le
made_long k = refl

-- the put on a context of k variables
module _ (g : Shape) (sup : Supported g) (context : List ℕ) (k : ℕ) (good : checked_context context ≡ Ok k) where
  put_read : answer_to g context put_seven.asked ≡ decided g context k put_seven.asked
  unfolding put_seven order_bytes le number order_in order_of order_readers order_ok order_operands_ok used_by_order order_starts
  put_read = all_passed g context put_seven.asked good good_none refl refl refl

  put_accepted : 2 * k + 2 ≤ positions g → order_accepted (answer_to g context put_seven.asked) ≡ true
  unfolding put_seven order_bytes le number order_in order_of order_readers present kinds_ok asked tree_of context_after
  put_accepted h =
      let q : Asked = put_seven.asked in
      let t : Tree = tree_of g context k [] (Put 7) in
      let z = immediate_size g (snd k) 7 in
      let w = good_length context good in
      ap order_accepted (put_read ∙ all_judged g context q k refl refl refl (le-leb (2 * k + 2) (positions g) h))
      ∙ fitting q t (context_after context k [] (Put 7)) (omega (arith, z.0)) (omega (arith, z.1)) (omega (arith, length-append context (made Ext k), made_long k, w.0, sup.frame))

  put_refused : positions g < 2 * k + 2 → order_answer_cause (answer_to g context put_seven.asked) ≡ 8 ∷ []
  unfolding put_seven order_bytes le number order_in order_of order_readers present kinds_ok asked
  put_refused h = ap order_answer_cause (put_read ∙ refusing)
    where
      refusing : decided g context k put_seven.asked ≡ Err Position
      refusing = rw (lt-leb (2 * k + 2) (positions g) h)

-- puts alone acquire nothing and owe nothing, so that the claim holds of them
module _ (g : Shape) (sup : Supported g) (blocks : ℕ) (two : 2 ≤ blocks) (most : blocks ≤ 1048576) where
  none_acquired : (n : ℕ) → acquired g blocks (puts n) ≡ 0
  unfolding puts put_seven order_bytes le number order_in order_of order_readers
  none_acquired zero = refl
  none_acquired (suc n) =
      let e = none_acquired n in
      both_ways (λ (k : ℕ). k + acquired g blocks (puts n) ≡ 0) (is_accepted g (reached g blocks (puts n)) put_seven.asked) (omega arith) (omega arith)

  none_owed : (n : ℕ) → AllOwed g blocks (puts n)
  unfolding puts put_seven order_bytes le number order_in order_of order_readers
  none_owed zero = tt
  none_owed (suc n) = ((λ e. (tt, tt)), none_owed n)

  after_puts : (n : ℕ) → After g blocks (puts n)
  unfolding HeapStaysSoundOnAcquired
  after_puts n = heap_stays_sound_on_acquired g sup blocks (puts n) (omega (arith, none_acquired n)) most (none_owed n)

  -- each is accepted while it has positions
  put_on : (n : ℕ) (b : Bool) (vs : Values) → b ≡ true → vs ≡ sevens n → cond b (plainly (Put 7) vs) vs ≡ sevens (suc n)
  unfolding plainly
  put_on n true vs e f = ap (λ (ws : Values). appended ws (cons (integer 7) nil)) f ∙ one_more n
  put_on n false vs e f = never e

  good_after : (n : ℕ) → values g blocks (puts n) ≡ sevens n → checked_context (reached g blocks (puts n)).context ≡ Ok n
  good_after n e = (after_puts n).sound.places ∙ ap (λ (vs : Values). Ok (count_of vs)) e ∙ ap Ok (count_sevens n)

  pub held : (n : ℕ) → n ≤ most_variables g → values g blocks (puts n) ≡ sevens n
  unfolding puts put_seven order_bytes le number order_in order_of order_readers
  held zero h = refl
  held (suc n) h =
      let before : values g blocks (puts n) ≡ sevens n = held n (omega arith) in
      put_on n (is_accepted g (reached g blocks (puts n)) put_seven.asked) (values g blocks (puts n)) (put_accepted g sup (reached g blocks (puts n)).context n (good_after n before) (omega arith)) before

  pub next_refused : order_answer_cause (answer_to g (reached g blocks (puts (most_variables g))).context put_seven.asked) ≡ 8 ∷ []
  next_refused =
      let n : ℕ = most_variables g in
      put_refused g sup (reached g blocks (puts n)).context n (good_after n (held n (omega arith))) (omega arith)

-- the store of all
store_small : (g : Shape) → Supported g → (context : List ℕ) (k n tag : ℕ) → (labels (tree_of g context k [] (Store n tag)) ≤ 10 * n + 100) × (size (tree_of g context k [] (Store n tag)) ≤ object_records g n + 1)
unfolding tree_of
store_small g sup context k n tag =
    let s = store_object_records g (ext_in context 0) sup (k - n) n in
    let z = immediate_size g (snd (k - n)) tag in
    (omega (arith, s.0, z.0), omega (arith, s.1, z.1))

-- an item that stores so many variables, in ample outputs
pub record Stores (n tag : ℕ) (it : Item) : Type 0 where
  pub is_order : order_is it.asked ≡ Store n tag
  pub starts : order_starts it.asked.order ≡ true
  pub whole : eqb (length it.asked.order) 24 ≡ true
  pub alone : it.asked.bindings ≡ []
  pub from_0 : it.asked.counter ≡ 0
  pub room_of_records : it.asked.records_room ≡ 24 * 65536
  pub room_of_context : it.asked.context_room ≡ 8 * 4096

-- all variables of the puts
module _ (g : Shape) (sup : Supported g) {n tag : ℕ} (it : Item) (w : Stores n tag it) (some : 1 ≤ n) (most : n ≤ most_variables g) (few : object_records g n < 65536) where
  after_small : (context : List ℕ) → length (context_after context n [] (Store n tag)) ≤ 8
  unfolding context_after binding_bytes le
  after_small context = let z : n - n ≡ 0 = omega arith in rw z (omega arith)

  store_judged : (context : List ℕ) → checked_context context ≡ Ok n → answer_to g context it.asked ≡ order_granted it.asked (tree_of g context n [] (Store n tag)) (context_after context n [] (Store n tag))
  unfolding present kinds_ok asked
  store_judged context good =
      let q : Asked = it.asked in
      all_passed g context q good (ap checked_context w.alone ∙ good_none) w.starts (rw w.is_order) w.whole
      ∙ all_judged g context q n (rw w.is_order (le-leb n n (omega arith))) (rw w.is_order) (rw w.is_order)
      (rw (w.is_order, ne_eqb n 0 (λ z. absurd (omega arith))) (le-leb (2 * n) (positions g) (omega arith)))
      ∙ rw (w.is_order, w.alone)

  store_accepted : (context : List ℕ) → checked_context context ≡ Ok n → order_accepted (answer_to g context it.asked) ≡ true
  store_accepted context good =
      let s = store_small g sup context n n tag in
      let k = after_small context in
      ap order_accepted (store_judged context good)
      ∙ fitting it.asked (tree_of g context n [] (Store n tag)) (context_after context n [] (Store n tag))
      (omega (arith, s.0, w.from_0, sup.frame)) (omega (arith, s.1, w.room_of_records)) (omega (arith, k, w.room_of_context))

  module _ (blocks : ℕ) (enough : 2 + length (object_sizes g n) ≤ blocks) (limit : blocks ≤ 1048576) where
    stored : (b : Bool) (o : Order) (vs ws : Values) → b ≡ true → o ≡ Store n tag → vs ≡ sevens n → plainly (Store n tag) (sevens n) ≡ ws → cond b (plainly o vs) vs ≡ ws
    stored true o vs ws e f v p = rw (f, v) p
    stored false o vs ws e f v p = never e

    pub all_stored : {ws : Values} → plainly (Store n tag) (sevens n) ≡ ws → values g blocks (it ∷ puts n) ≡ ws
    all_stored {ws} p =
        let two : 2 ≤ blocks = omega arith in
        let before = held g sup blocks two limit n most in
        let good = good_after g sup blocks two limit n before in
        stored (is_accepted g (reached g blocks (puts n)) it.asked) (order_is it.asked) (values g blocks (puts n)) ws (store_accepted (reached g blocks (puts n)).context good) w.is_order before p

    acquired_so : acquired g blocks (it ∷ puts n) ≤ length (object_sizes g n)
    acquired_so =
        let e = none_acquired g sup blocks (omega arith) limit n in
        let most : ℕ = length (object_sizes g n) in
        rw w.is_order (both_ways (λ (k : ℕ). k + acquired g blocks (puts n) ≤ most) (is_accepted g (reached g blocks (puts n)) it.asked) (omega arith) (omega arith))

    nothing_owed : AllOwed g blocks (it ∷ puts n)
    nothing_owed = ((λ e. rw w.is_order (tt, tt)), none_owed g sup blocks (omega arith) limit n)

    pub after_all : After g blocks (it ∷ puts n)
    unfolding HeapStaysSoundOnAcquired
    after_all = heap_stays_sound_on_acquired g sup blocks (it ∷ puts n) (omega (arith, acquired_so)) limit nothing_owed
