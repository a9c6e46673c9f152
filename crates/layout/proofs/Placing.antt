-- The table of positions is the rule, by one computed test; and the answers of the queries.
use Rattle.layout.specs.declared.utils.NoTemporary.{NoTemporary}
use Rattle.std.specs.Prelude.{Err, Ok, None, Some, Option, Result}
use Prim.Native.Nat.{ℕ, suc, ◌+◌, ◌*◌, ◌-◌, ◌≤◌, ◌<◌}
use mathlib.Core.Path.{◌≡◌, refl, sym, ap, ◌∙◌}
use mathlib.Core.Bool.{Bool, true, false, ◌&&◌, ◌||◌, cond}
use mathlib.Core.List.{List, [], ◌∷◌}
use native.Mathlib.Numerals.{add-one}
use native.Mathlib.Omega.{arith}
use lib.Dec.{leb, ltb, eqb, eqb→eq}
use lib.ListN.{get_or, drop}
use Rattle.std.specs.Result.{IsErrAnd, result_ok}
use Rattle.std.proofs.Math.Bool.{and-false}
use borrow.Author.Tests.{eq-eqb, eqb-true, ne_eqb, lt-ltb, le-ltb, lt-leb, le-leb, leb-true, ltb-true, ltb-false}
use Rattle.records.proofs.Conditions.{and_left, and_right, both_ways}
use Rattle.records.proofs.Table.{at}
use Rattle.records.specs.declared.context.Flaw.{Flaw}
use Rattle.records.specs.Contexts.{binding_in, checked_context}
use Rattle.layout.specs.declared.config.NoOffset.TheVariants as offset
use Rattle.layout.specs.declared.config.Shape.{Shape}
use Rattle.layout.specs.declared.config.Unshaped.{Unshaped}
use Rattle.layout.specs.declared.utils.TemporaryNumber.{TemporaryNumber}
use Rattle.layout.specs.declared.utils.NoTemporary.TheVariants.{Missing, OutOfTemporaries}
use Rattle.layout.specs.declared.utils.NoTemporary.TheVariants as temporary
use Rattle.layout.specs.Config.{Supported, base, larger, second, frame_of, edition_of, combined, shape_of, in_choice, frame_on, shape_on, operands, positions, stack_offset, stack_depth}
use Rattle.layout.specs.Positions.{location, Table, operand_ok, position_answer}
use Rattle.layout.specs.Queries.{half_number, id_place, fresh_temporary, variable_temporary, spill_offset, word_offset, field_offset}

abbrev table : List ℕ
table = 4 ∷ 5 ∷ 6 ∷ 7 ∷ 8 ∷ 9 ∷ 10 ∷ 11 ∷ 12 ∷ 13 ∷ 14 ∷ 15 ∷ 17 ∷ 18 ∷ 19 ∷ 20 ∷ 21 ∷ 22 ∷ 23 ∷ 24 ∷ 25 ∷ 26 ∷ 27 ∷ 28 ∷ 29 ∷ 30 ∷ 31 ∷ 32 ∷ 33 ∷ 34 ∷ 35 ∷ 36 ∷ 37 ∷ 38 ∷ 39 ∷ 40 ∷ 41 ∷ 42 ∷ 43 ∷ 44 ∷ 45 ∷ 46 ∷ 47 ∷ 48 ∷ 49 ∷ 50 ∷ 51 ∷ 52 ∷ 53 ∷ 54 ∷ 55 ∷ 56 ∷ 57 ∷ 58 ∷ 59 ∷ 60 ∷ 61 ∷ 62 ∷ 63 ∷ 64 ∷ 65 ∷ 66 ∷ 67 ∷ 68 ∷ 69 ∷ 70 ∷ 71 ∷ 72 ∷ 73 ∷ 74 ∷ 75 ∷ 76 ∷ 77 ∷ 78 ∷ 79 ∷ 80 ∷ 81 ∷ 82 ∷ 83 ∷ 84 ∷ 85 ∷ 86 ∷ 87 ∷ 88 ∷ 89 ∷ 90 ∷ 91 ∷ 92 ∷ 93 ∷ 94 ∷ 95 ∷ 96 ∷ 97 ∷ 98 ∷ 99 ∷ 100 ∷ 101 ∷ 102 ∷ 103 ∷ 104 ∷ 105 ∷ 106 ∷ 107 ∷ 108 ∷ 109 ∷ 110 ∷ 111 ∷ 112 ∷ 113 ∷ 114 ∷ 115 ∷ 116 ∷ 117 ∷ 118 ∷ 119 ∷ 120 ∷ 121 ∷ 122 ∷ 123 ∷ 124 ∷ 125 ∷ 126 ∷ 127 ∷ 128 ∷ 129 ∷ 130 ∷ 131 ∷ 132 ∷ 133 ∷ 134 ∷ 135 ∷ 136 ∷ 137 ∷ 138 ∷ 139 ∷ 140 ∷ 141 ∷ 142 ∷ 143 ∷ 144 ∷ 145 ∷ 146 ∷ 147 ∷ 148 ∷ 149 ∷ 150 ∷ 151 ∷ 152 ∷ 153 ∷ 154 ∷ 155 ∷ 156 ∷ 157 ∷ 158 ∷ 159 ∷ 160 ∷ 161 ∷ 162 ∷ 163 ∷ 164 ∷ 165 ∷ 166 ∷ 167 ∷ 168 ∷ 169 ∷ 170 ∷ 171 ∷ 172 ∷ 173 ∷ 174 ∷ 175 ∷ 176 ∷ 177 ∷ 178 ∷ 179 ∷ 180 ∷ 181 ∷ 182 ∷ 183 ∷ 184 ∷ 185 ∷ 186 ∷ 187 ∷ 188 ∷ 189 ∷ 190 ∷ 191 ∷ 192 ∷ 193 ∷ 194 ∷ 195 ∷ 196 ∷ 197 ∷ 198 ∷ 199 ∷ 200 ∷ 201 ∷ 202 ∷ 203 ∷ 204 ∷ 205 ∷ 206 ∷ 207 ∷ 208 ∷ 209 ∷ 210 ∷ 211 ∷ 212 ∷ 213 ∷ 214 ∷ 215 ∷ 216 ∷ 217 ∷ 218 ∷ 219 ∷ 220 ∷ 221 ∷ 222 ∷ 223 ∷ 224 ∷ 225 ∷ 226 ∷ 227 ∷ 228 ∷ 229 ∷ 230 ∷ 231 ∷ 232 ∷ 233 ∷ 234 ∷ 235 ∷ 236 ∷ 237 ∷ 238 ∷ 239 ∷ 240 ∷ 241 ∷ 242 ∷ 243 ∷ 244 ∷ 245 ∷ 246 ∷ 247 ∷ 248 ∷ 249 ∷ 250 ∷ 251 ∷ 252 ∷ 253 ∷ 254 ∷ 255 ∷ 256 ∷ 257 ∷ 258 ∷ 259 ∷ 260 ∷ 261 ∷ 262 ∷ 263 ∷ 264 ∷ 265 ∷ 266 ∷ 267 ∷ 268 ∷ 269 ∷ 270 ∷ 271 ∷ 272 ∷ 273 ∷ 274 ∷ 275 ∷ 276 ∷ 277 ∷ 278 ∷ 279 ∷ 280 ∷ 281 ∷ 282 ∷ 283 ∷ 284 ∷ 285 ∷ 286 ∷ 287 ∷ 288 ∷ 289 ∷ 290 ∷ 291 ∷ 292 ∷ 293 ∷ 294 ∷ 295 ∷ 296 ∷ 297 ∷ 298 ∷ 299 ∷ 300 ∷ 301 ∷ 302 ∷ 303 ∷ 304 ∷ 305 ∷ 306 ∷ 307 ∷ 308 ∷ 309 ∷ 310 ∷ 311 ∷ 312 ∷ 313 ∷ 314 ∷ 315 ∷ 316 ∷ 317 ∷ 318 ∷ 319 ∷ 320 ∷ 321 ∷ 322 ∷ 323 ∷ 324 ∷ 325 ∷ 326 ∷ 327 ∷ 328 ∷ 329 ∷ 330 ∷ 331 ∷ 332 ∷ 333 ∷ 334 ∷ 335 ∷ 336 ∷ 337 ∷ 338 ∷ 339 ∷ 340 ∷ 341 ∷ 342 ∷ 343 ∷ 344 ∷ 345 ∷ 346 ∷ 347 ∷ 348 ∷ 349 ∷ 350 ∷ 351 ∷ 352 ∷ 353 ∷ 354 ∷ 355 ∷ 356 ∷ 357 ∷ 358 ∷ 359 ∷ 360 ∷ 361 ∷ 362 ∷ 363 ∷ 364 ∷ 365 ∷ 366 ∷ 367 ∷ 368 ∷ 369 ∷ 370 ∷ 371 ∷ 372 ∷ 373 ∷ 374 ∷ 375 ∷ 376 ∷ 377 ∷ 378 ∷ 379 ∷ 380 ∷ 381 ∷ 382 ∷ 383 ∷ 384 ∷ 385 ∷ 386 ∷ 387 ∷ 388 ∷ 389 ∷ 390 ∷ 391 ∷ 392 ∷ 393 ∷ 394 ∷ 395 ∷ 396 ∷ 397 ∷ 398 ∷ 399 ∷ 400 ∷ 401 ∷ 402 ∷ 403 ∷ 404 ∷ 405 ∷ 406 ∷ 407 ∷ 408 ∷ 409 ∷ 410 ∷ 411 ∷ 412 ∷ 413 ∷ 414 ∷ 415 ∷ 416 ∷ 417 ∷ 418 ∷ 419 ∷ 420 ∷ 421 ∷ 422 ∷ 423 ∷ 424 ∷ 425 ∷ 426 ∷ 427 ∷ 428 ∷ 429 ∷ 430 ∷ 431 ∷ 432 ∷ 433 ∷ 434 ∷ 435 ∷ 436 ∷ 437 ∷ 438 ∷ 439 ∷ 440 ∷ 441 ∷ 442 ∷ 443 ∷ 444 ∷ 445 ∷ 446 ∷ 447 ∷ 448 ∷ 449 ∷ 450 ∷ 451 ∷ 452 ∷ 453 ∷ 454 ∷ 455 ∷ 456 ∷ 457 ∷ 458 ∷ 459 ∷ 460 ∷ 461 ∷ 462 ∷ 463 ∷ 464 ∷ 465 ∷ 466 ∷ 467 ∷ 468 ∷ 469 ∷ 470 ∷ 471 ∷ 472 ∷ 473 ∷ 474 ∷ 475 ∷ 476 ∷ 477 ∷ 478 ∷ 479 ∷ 480 ∷ 481 ∷ 482 ∷ 483 ∷ 484 ∷ 485 ∷ 486 ∷ 487 ∷ 488 ∷ 489 ∷ 490 ∷ 491 ∷ 492 ∷ 493 ∷ 494 ∷ 495 ∷ 496 ∷ 497 ∷ 498 ∷ 499 ∷ 500 ∷ 501 ∷ 502 ∷ 503 ∷ 504 ∷ 505 ∷ 506 ∷ 507 ∷ 508 ∷ 509 ∷ 510 ∷ 511 ∷ 512 ∷ 513 ∷ 514 ∷ 515 ∷ 516 ∷ 517 ∷ 518 ∷ 519 ∷ 520 ∷ 521 ∷ 522 ∷ 523 ∷ 524 ∷ 525 ∷ 526 ∷ 527 ∷ []

right : ℕ → ℕ → Bool
right p w = eqb w (location p)

pub table_right : Table table
unfolding right location
table_right p h = eqb→eq (get_or table p 0) (location p) (at right table tt p h)

pub location_below : (p : ℕ) → location p ≤ p + 5
unfolding location
location_below p = by (ltb p 12) refl
  where
    by : (b : Bool) → ltb p 12 ≡ b → cond b (p + 4) (p + 5) ≤ p + 5
    by true e = omega arith
    by false e = omega arith

-- what stood in an option that was asked for by `ok_or`
pub found : {A E : Type 0} {o : Option A} {r : Result A E} {x : A} → o ≡ result_ok r → r ≡ Ok x → o ≡ Some x
found e h = e ∙ ap result_ok h

-- a refusal handed on by `?`
pub handed_on : {A E : Type 0} (r : Result A E) {e : E} → IsErrAnd r (λ x. x ≡ e) → r ≡ Err e
handed_on (Ok x) h = absurd h
handed_on (Err d) h = ap (λ x. Err x) h

module _ (g : Shape) where
  pub position_none : (p : ℕ) → positions g ≤ p → Err OutOfTemporaries ≡ position_answer g p
  unfolding position_answer
  position_none p h = rw (le-ltb p (positions g) h)

  pub position_operand : {w : ℕ} (p : ℕ) → p < positions g → w ≡ location p → Ok w ≡ position_answer g p
  unfolding position_answer
  position_operand p h e = rw (lt-ltb p (positions g) h, e)

module _ (g : Shape) (w : ℕ) where
  pub reserved : w < 4 → false ≡ operand_ok g w
  unfolding operand_ok
  reserved h = rw (lt-leb 4 w h)

  pub beyond : 16 ≤ w → g.spills ≤ w - 16 → false ≡ operand_ok g w
  unfolding operand_ok
  beyond l h = rw (le-leb 4 w (omega arith), le-ltb w (operands g) (omega arith))

  pub register : 4 ≤ w → w < 16 → true ≡ operand_ok g w
  unfolding operand_ok
  register l h = rw (le-leb 4 w l, lt-ltb w (operands g) (omega arith), lt-ltb w 16 h)

  pub spilled : 16 ≤ w → w - 16 < g.spills → ltb 16 w ≡ operand_ok g w
  unfolding operand_ok
  spilled l h = rw (le-leb 4 w (omega arith), lt-ltb w (operands g) (omega arith), le-ltb w 16 l)

  pub operand_range : {b : Bool} → b ≡ operand_ok g w → b ≡ true → (4 ≤ w) × (w < operands g)
  unfolding operand_ok
  operand_range e t =
      let r = and_left (leb 4 w && ltb w (operands g)) (ltb w 16 || ltb 16 w) (sym e ∙ t) in
      (leb-true 4 w (and_left (leb 4 w) (ltb w (operands g)) r), ltb-true w (operands g) (and_right (leb 4 w) (ltb w (operands g)) r))

-- a search for an id: k of n bindings are passed, and the rest is to be searched
module _ (s : List ℕ) (id k n : ℕ) {i : ℕ} (here : i ≡ (binding_in (drop (8 * k) s)).id) (h : k < n) where
  pub id_here : i ≡ id → k ≡ id_place s id k (n - k)
  unfolding id_place
  id_here e = let m : n - k ≡ suc (n - (k + 1)) = omega arith in rw (m, ← here, eq-eqb i id e)

  pub id_next : (i ≡ id → ⊥) → id_place s id k (n - k) ≡ id_place s id (k + 1) (n - (k + 1))
  unfolding id_place
  id_next e = let m : n - k ≡ suc (n - (k + 1)) = omega arith in rw (m, add-one, ← here, ne_eqb i id e)

pub id_none : (s : List ℕ) (id k n : ℕ) → n ≤ k → k ≡ id_place s id k (n - k)
unfolding id_place
id_none s id k n h = let m : n - k ≡ 0 = omega arith in rw m

module _ (g : Shape) (s : List ℕ) (half : TemporaryNumber) where
  pub fresh : {r : Result ℕ NoTemporary} {d : ℕ} (n : ℕ) → checked_context s ≡ Ok n → d ≡ half_number half → r ≡ position_answer g (2 * n + d) → r ≡ fresh_temporary g half s
  unfolding fresh_temporary
  fresh n e q p = rw (e, ← q) p

  pub fresh_bad : (flaw : Flaw) → checked_context s ≡ Err flaw → Err (temporary.Context flaw) ≡ fresh_temporary g half s
  unfolding fresh_temporary
  fresh_bad flaw e = rw e

  pub variable : {r : Result ℕ NoTemporary} {d k : ℕ} (id n : ℕ) → checked_context s ≡ Ok n → d ≡ half_number half → k ≡ id_place s id 0 n → r ≡ cond (ltb k n) (position_answer g (2 * k + d)) (Err Missing) → r ≡ variable_temporary g half s id
  unfolding variable_temporary
  variable id n e q i p = rw (e, ← i, ← q) p

  pub variable_bad : (id : ℕ) (flaw : Flaw) → checked_context s ≡ Err flaw → Err (temporary.Context flaw) ≡ variable_temporary g half s id
  unfolding variable_temporary
  variable_bad id flaw e = rw e

module _ (g : Shape) (w : ℕ) where
  pub no_low_spill : w ≤ 16 → Err offset.Operand ≡ spill_offset g w
  unfolding spill_offset
  no_low_spill h = rw (le-ltb 16 w h)

  pub no_high_spill : 16 < w → g.spills ≤ w - 16 → Err offset.Operand ≡ spill_offset g w
  unfolding spill_offset
  no_high_spill l h = rw (lt-ltb 16 w l, le-ltb w (operands g) (omega arith))

  pub spill_at : {n : ℕ} → 16 < w → w - 16 < g.spills → n ≡ stack_offset g w → Ok n ≡ spill_offset g w
  unfolding spill_offset
  spill_at l h e = rw (lt-ltb 16 w l, lt-ltb w (operands g) (omega arith), e)

module _ (g : Shape) (number : TemporaryNumber) (i : ℕ) where
  pub no_field : g.fields ≤ i → Err offset.Operand ≡ field_offset g number i
  unfolding field_offset
  no_field h = rw (le-ltb i g.fields h)

  pub field_at : {n : ℕ} → i < g.fields → n ≡ word_offset number i → Ok n ≡ field_offset g number i
  unfolding field_offset
  field_at h e = rw (lt-ltb i g.fields h, e)

pub base_supported : Supported base
base_supported = record { some = omega arith; few = omega arith; frame = omega arith; even = refl; aside = omega arith }

pub larger_supported : Supported larger
larger_supported = record { some = omega arith; few = omega arith; frame = omega arith; even = refl; aside = omega arith }

pub second_supported : Supported second
second_supported = record { some = omega arith; few = omega arith; frame = omega arith; even = refl; aside = omega arith }

module _ (frame : ℕ) where
  pub small_frame : {g : Shape} → frame ≡ base.spills → g ≡ base → Some g ≡ frame_of frame
  unfolding frame_of
  small_frame h e = rw (e, eq-eqb frame 256 h)

  pub large_frame : {g : Shape} → (frame ≡ base.spills → ⊥) → frame ≡ larger.spills → g ≡ larger → Some g ≡ frame_of frame
  unfolding frame_of
  large_frame n h e = rw (e, ne_eqb frame 256 n, eq-eqb frame 512 h)

  pub no_frame : (frame ≡ base.spills → ⊥) → (frame ≡ larger.spills → ⊥) → None ≡ frame_of frame
  unfolding frame_of
  no_frame n h = rw (ne_eqb frame 256 n, ne_eqb frame 512 h)

module _ (edition : ℕ) where
  pub first_edition : {g : Shape} → edition ≡ 1 → g ≡ base → Some g ≡ edition_of edition
  unfolding edition_of
  first_edition h e = rw (e, eq-eqb edition 1 h)

  pub second_edition : {g : Shape} → (edition ≡ 1 → ⊥) → edition ≡ 2 → g ≡ second → Some g ≡ edition_of edition
  unfolding edition_of
  second_edition n h e = rw (e, ne_eqb edition 1 n, eq-eqb edition 2 h)

  pub no_edition : (edition ≡ 1 → ⊥) → (edition ≡ 2 → ⊥) → None ≡ edition_of edition
  unfolding edition_of
  no_edition n h = rw (ne_eqb edition 1 n, ne_eqb edition 2 h)

-- frames and editions are among the shapes that the claims are for
abbrev OnlySupported : Option Shape → Type 0
OnlySupported (Some g) = Supported g
OnlySupported None = Unit {0}

-- one of two shapes, or none
one_of_two : (b c : Bool) {g h : Shape} → Supported g → Supported h → OnlySupported (cond b (Some g) (cond c (Some h) None))
one_of_two b c u v = both_ways OnlySupported b u (both_ways OnlySupported c v tt)

frame_supported : (frame : ℕ) → OnlySupported (frame_of frame)
unfolding frame_of
frame_supported frame = one_of_two (eqb frame base.spills) (eqb frame larger.spills) base_supported larger_supported

edition_supported : (edition : ℕ) → OnlySupported (edition_of edition)
unfolding edition_of
edition_supported edition = one_of_two (eqb edition 1) (eqb edition 2) base_supported second_supported

pub framed_supported : (frame : ℕ) {g : Shape} → frame_of frame ≡ Some g → Supported g
framed_supported frame e = rw e at (frame_supported frame)

pub edited_supported : (edition : ℕ) {g : Shape} → edition_of edition ≡ Some g → Supported g
edited_supported edition e = rw e at (edition_supported edition)

same_in : {g h : Shape} → ◌≡◌ {A = Result Shape Unshaped} (Ok g) (Ok h) → g ≡ h
same_in e = cc

-- the blocks of the one in the frame of the other are supported too
combined_supported : (b f : Option Shape) {g : Shape} → OnlySupported b → OnlySupported f → combined b f ≡ Ok g → Supported g
combined_supported None f u v e = let z : ◌≡◌ {A = ℕ} 0 1 = cc in absurd (omega arith)
combined_supported (Some b) None u v e = let z : ◌≡◌ {A = ℕ} 0 1 = cc in absurd (omega arith)
combined_supported (Some b) (Some f) {g} u v e =
    let w : Supported (record { fields = b.fields; spills = f.spills }) = record { some = u.some; few = u.few; frame = v.frame; even = v.even; aside = v.aside } in
    rw (same_in e) at w

pub shaped_supported : (edition frame : ℕ) {g : Shape} → shape_of edition frame ≡ Ok g → Supported g
unfolding shape_of
shaped_supported edition frame e = combined_supported (edition_of edition) (frame_of frame) (edition_supported edition) (frame_supported frame) e

-- what is answered by a number, by what was found for it
module _ {A : Type 0} {r found : Option Shape} (e : r ≡ found) (known : Shape → A) (other : A) where
  pub chosen : {g : Shape} → r ≡ Some g → known g ≡ in_choice found known other
  chosen h = rw (← e, h)

  pub not_chosen : r ≡ None → other ≡ in_choice found known other
  not_chosen h = rw (← e, h)

module _ (frame words : ℕ) where
  pub on_its_stack : {g : Shape} → frame_of frame ≡ Some g → words ≡ stack_depth g → Some g ≡ frame_on frame words
  unfolding frame_on
  on_its_stack {g} e h = rw (e, eq-eqb words (stack_depth g) h)

  pub on_another_stack : {g : Shape} → frame_of frame ≡ Some g → (words ≡ stack_depth g → ⊥) → None ≡ frame_on frame words
  unfolding frame_on
  on_another_stack {g} e h = rw (e, ne_eqb words (stack_depth g) h)

  pub on_no_frame : frame_of frame ≡ None → None ≡ frame_on frame words
  unfolding frame_on
  on_no_frame e = rw e

  -- a stack that goes with a frame has its words
  pub on_stack : {g : Shape} → frame_on frame words ≡ Some g → (frame_of frame ≡ Some g) × (words ≡ stack_depth g)
  unfolding frame_on
  on_stack {g} = by (frame_of frame)
    where
      same : {h : Shape} → Some h ≡ Some g → h ≡ g
      same e = cc

      fits : (h : Shape) (b : Bool) → eqb words (stack_depth h) ≡ b → cond b (Some h) None ≡ Some g → (Some h ≡ Some g) × (words ≡ stack_depth g)
      fits h true p e = (e, eqb-true words (stack_depth h) p ∙ ap (λ (x : Shape). stack_depth x) (same e))
      fits h false p e = let z : ◌≡◌ {A = ℕ} 0 1 = cc in absurd (omega arith)

      by : (f : Option Shape) → in_choice f (λ h. cond (eqb words (stack_depth h)) (Some h) None) None ≡ Some g → (f ≡ Some g) × (words ≡ stack_depth g)
      by (Some h) e = fits h (eqb words (stack_depth h)) refl e
      by None e = let z : ◌≡◌ {A = ℕ} 0 1 = cc in absurd (omega arith)

  -- and with a shape
  pub shape_stack : (edition : ℕ) {g : Shape} → shape_on edition frame words ≡ Ok g → (shape_of edition frame ≡ Ok g) × (words ≡ stack_depth g)
  unfolding shape_on shape_of
  shape_stack edition {g} = by (edition_of edition) (frame_on frame words) refl
    where
      by : (b f : Option Shape) → frame_on frame words ≡ f → combined b f ≡ Ok g → (combined b (frame_of frame) ≡ Ok g) × (words ≡ stack_depth g)
      by None f k e = let z : ◌≡◌ {A = ℕ} 0 1 = cc in absurd (omega arith)
      by (Some b) None k e = let z : ◌≡◌ {A = ℕ} 0 1 = cc in absurd (omega arith)
      by (Some b) (Some f) k e =
          let w = on_stack k in
          (ap (combined (Some b)) w.0 ∙ e, w.1 ∙ ap (λ (x : Shape). stack_depth x) (same_in e))
