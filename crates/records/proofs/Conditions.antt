-- Conditions joined by `&&`, a condition that is true and false, two that agree, and choices: what both parts have, and of which one part is a refusal.
use mathlib.Core.Path.{◌≡◌, refl, sym, ◌∙◌}
use mathlib.Core.Bool.{Bool, true, false, false≢true, ◌&&◌, cond}

pub never : {A : Type 0} → false ≡ true → A
never e = absurd (false≢true e)

pub and_left : (a b : Bool) → a && b ≡ true → a ≡ true
and_left true b e = refl
and_left false b e = e

pub and_right : (a b : Bool) → a && b ≡ true → b ≡ true
and_right true b e = e
and_right false true e = refl
and_right false false e = e

pub both : (a b : Bool) → a && b ≡ true → (a ≡ true) × (b ≡ true)
both a b e = (and_left a b e, and_right a b e)

-- two conditions that follow from each other
pub agree : (a b : Bool) → (a ≡ true → b ≡ true) → (b ≡ true → a ≡ true) → a ≡ b
agree true b f g = sym (f refl)
agree false true f g = g refl
agree false false f g = refl

-- what is so of both parts of a choice is so of the choice
pub both_ways : {A : Type 0} (P : A → Type 0) (b : Bool) {x y : A} → P x → P y → P (cond b x y)
both_ways P true p q = p
both_ways P false p q = q

module _ {A : Type 0} (accepted : A → Bool) where
  -- the second part is a refusal
  pub chosen : (b : Bool) (x y : A) → accepted y ≡ false → accepted (cond b x y) ≡ true → (b ≡ true) × (accepted x ≡ true)
  chosen true x y r e = (refl, e)
  chosen false x y r e = never (sym r ∙ e)

  -- the first part is one
  pub passed : (b : Bool) (x y : A) → accepted x ≡ false → accepted (cond b x y) ≡ true → (b ≡ false) × (accepted y ≡ true)
  passed false x y r e = (refl, e)
  passed true x y r e = never (sym r ∙ e)
