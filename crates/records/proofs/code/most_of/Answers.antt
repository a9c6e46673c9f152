use native.Mathlib.Nat.{le_antisymm}
use Rattle.records.specs.Codes.{readers, code_of}
use Rattle.records.specs.Instructions.{used, largest}
use Rattle.records.proofs.Matched.{above}
use Rattle.records.proofs.code.most_of.Goals as goal

pub returns-in-1 : goal.returns-in-1
unfolding readers code_of used largest
returns-in-1 c = rw (c.of.ensures, c.in-1.is)

pub returns-in-2 : goal.returns-in-2
unfolding readers code_of used largest
returns-in-2 c = rw (c.of-in-2.ensures, c.in-2.is)

pub returns-in-3 : goal.returns-in-3
unfolding readers code_of used largest
returns-in-3 c = rw (c.of-in-3.ensures, c.in-3.is)

pub returns-in-4 : goal.returns-in-4
unfolding readers code_of used largest
returns-in-4 c = rw (c.of-in-4.ensures, c.in-4.is)

pub returns-in-5 : goal.returns-in-5
unfolding readers code_of used largest
returns-in-5 c = rw (c.of-in-5.ensures, c.in-5.is)

pub returns-in-6 : goal.returns-in-6
unfolding readers code_of used largest
returns-in-6 c = rw (c.of-in-6.ensures, c.in-6.is)

pub returns-in-7 : goal.returns-in-7
unfolding readers code_of used largest
returns-in-7 c = rw (c.of-in-7.ensures, c.in-7.is)

pub returns-in-8 : goal.returns-in-8
unfolding readers code_of used largest
returns-in-8 c = rw (c.of-in-8.ensures, c.in-8.is)

pub returns-in-9 : goal.returns-in-9
unfolding readers code_of used largest
returns-in-9 c = rw (c.of-in-9.ensures, c.in-9.is)

pub returns-in-10 : goal.returns-in-10
unfolding readers code_of used largest
returns-in-10 c = rw (c.of-in-10.ensures, c.in-10.is)

pub returns-in-11 : goal.returns-in-11
unfolding readers code_of used largest
returns-in-11 c = rw (c.of-in-11.ensures, c.in-11.is)

pub returns-in-12 : goal.returns-in-12
unfolding readers code_of used largest
returns-in-12 c = rw (c.of-in-12.ensures, c.in-12.is)

pub returns-in-13 : goal.returns-in-13
unfolding readers code_of used largest
returns-in-13 c = rw (c.of-in-13.ensures, c.in-13.is)

pub returns-in-14 : goal.returns-in-14
unfolding readers code_of used largest
returns-in-14 c = rw (c.of-in-14.ensures, c.in-14.is)

pub returns-in-15 : goal.returns-in-15
unfolding readers code_of used largest
returns-in-15 c = rw (c.of-in-15.ensures, c.in-15.is)

pub returns-in-16 : goal.returns-in-16
unfolding readers code_of used largest
returns-in-16 c = rw (c.of-in-16.ensures, c.in-16.is)

pub returns-in-17 : goal.returns-in-17
unfolding readers code_of used largest
returns-in-17 c = rw (c.of-in-17.ensures, c.in-17.is)

pub returns-in-18 : goal.returns-in-18
unfolding readers code_of used largest
returns-in-18 c = rw (c.of-in-18.ensures, c.in-18.is)

pub returns-in-19 : goal.returns-in-19
unfolding readers code_of used largest
returns-in-19 c = rw (c.of-in-19.ensures, c.in-19.is)

pub returns-in-20 : goal.returns-in-20
unfolding readers code_of used largest
returns-in-20 c = rw (c.of-in-20.ensures, c.in-20.is)

pub returns-in-21 : goal.returns-in-21
unfolding readers code_of used largest
returns-in-21 c = rw (c.of-in-21.ensures, c.in-21.is)

pub returns-in-22 : goal.returns-in-22
unfolding readers code_of used largest
returns-in-22 c = rw (c.of-in-22.ensures, c.in-22.is)

pub returns-in-23 : goal.returns-in-23
unfolding readers code_of used largest
returns-in-23 c = rw (c.of-in-23.ensures, c.in-23.is)

pub returns-in-24 : goal.returns-in-24
unfolding readers code_of used largest
returns-in-24 c = rw (c.of-in-24.ensures, c.in-24.is)

pub returns-in-25 : goal.returns-in-25
unfolding readers code_of used largest
returns-in-25 c = rw (c.of-in-25.ensures, c.in-25.is)

pub returns-in-26 : goal.returns-in-26
unfolding readers code_of used largest
returns-in-26 c = rw (c.of-in-26.ensures, c.in-26.is)

pub returns-in-27 : goal.returns-in-27
unfolding readers code_of used largest
returns-in-27 c = rw (c.of-in-27.ensures, c.in-27.is)

pub returns-in-28 : goal.returns-in-28
unfolding readers code_of used largest
returns-in-28 c = rw (c.of-in-28.ensures, c.in-28.is)

pub returns-in-29 : goal.returns-in-29
unfolding readers code_of used largest
returns-in-29 c = rw (c.of-in-29.ensures, c.in-29.is)

pub returns-in-30 : goal.returns-in-30
unfolding readers code_of used largest
returns-in-30 c = rw (c.of-in-30.ensures, c.in-30.is)

pub returns-in-31 : goal.returns-in-31
unfolding readers code_of used largest
returns-in-31 c = rw (c.of-in-31.ensures, c.in-31.is)

pub returns-in-32 : goal.returns-in-32
unfolding readers code_of used largest
returns-in-32 c = rw (c.of-in-32.ensures, c.in-32.is)

pub returns-in-33 : goal.returns-in-33
unfolding readers code_of used largest
returns-in-33 c = rw (c.of-in-33.ensures, c.in-33.is)

pub returns-in-34 : goal.returns-in-34
unfolding readers code_of used largest
returns-in-34 c = rw (c.of-in-34.ensures, c.in-34.is)

pub returns-in-35 : goal.returns-in-35
unfolding readers code_of used largest
returns-in-35 c = rw (c.of-in-35.ensures, c.in-35.is)

pub returns-in-36 : goal.returns-in-36
unfolding readers code_of used largest
returns-in-36 c = rw (c.of-in-36.ensures, c.in-36.is)

pub returns-in-37 : goal.returns-in-37
unfolding readers code_of used largest
returns-in-37 c = rw (c.of-in-37.ensures, c.in-37.is)

pub returns-in-38 : goal.returns-in-38
unfolding readers code_of used largest
returns-in-38 c = rw (c.of-in-38.ensures, c.in-38.is)

pub returns-in-39 : goal.returns-in-39
unfolding readers code_of used largest
returns-in-39 c = rw (c.of-in-39.ensures, c.in-39.is)

pub returns-in-40 : goal.returns-in-40
unfolding readers code_of used largest
returns-in-40 c = rw (c.of-in-40.ensures, c.in-40.is)

pub returns-in-41 : goal.returns-in-41
unfolding readers code_of used largest
returns-in-41 c = rw (c.of-in-41.ensures, c.in-41.is)

pub returns-in-42 : goal.returns-in-42
unfolding readers code_of used largest
returns-in-42 c = rw (c.of-in-42.ensures, c.in-42.is)

pub returns-in-43 : goal.returns-in-43
unfolding readers code_of used largest
returns-in-43 c = rw (c.of-in-43.ensures, c.in-43.is)

pub returns-in_default : goal.returns-in_default
unfolding readers code_of used largest
returns-in_default c = rw (c.of-in_default.ensures, le_antisymm c.requires.1 (above 43 c.requires.0 c.in_default.in_default-own.rest))
