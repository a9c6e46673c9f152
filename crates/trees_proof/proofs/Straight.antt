-- A straight record goes on to the next one or faults, and is no label: by how each instruction leaves a record.
use Prim.Native.Nat.{ℕ, ◌%◌}
use mathlib.Core.Path.{◌≡◌, refl, sym, subst}
use mathlib.Core.Bool.{Bool, true, false, ◌&&◌}
use lib.Dec.{eqb}
use Rattle.records.specs.declared.code.Code.{Code}
use Rattle.records.specs.declared.code.Code.TheVariants.{ADD, ADDRM, ADDMR, ADDI, ADDIM, SUB, SUBRM, SUBMR, SUBI, IMUL, IMULRM, IMULMR, IDIV, IDIVM, CQO, JMP, JMPL, JMPLN, LEAL, MOV, MOVS, MOVL, MOVI, MOVIM, CMP, CMPRM, CMPMR, CMPI, CMPIM, JEL, JNEL, JLL, JLEL, JGL, JGEL, PUSH, POP, CALL, RET, LAB, NOEXECSTACK, TEXT, GLOBAL, EXTERN}
use Rattle.records.proofs.Conditions.{never, both_ways}
use Rattle.trees.specs.Tree.{straight}
use Rattle.machine_step.specs.Step.{Config, Outcome, next, jump, end, fault, is_print_name, step}
use Rattle.machine_step.proofs.Flow.{Flow, plain, jumps, branches, mark, calling, returning, stops, flow, plainly, by_flow, step_by_flow}
use Rattle.machine.specs.Run.{is_lab}

abbrev goes_on : Flow → Bool
goes_on plain = true
goes_on (jumps label) = false
goes_on (branches holds label) = false
goes_on (mark label) = false
goes_on (calling label) = true
goes_on returning = false
goes_on stops = true

abbrev Told : Code → Type 0
Told x = (goes_on (flow x) ≡ true) × ((label : ℕ) → is_lab label x ≡ false)

told : (x : Code) → straight x ≡ true → Told x
told (ADD a b) e = (refl, λ l. refl)
told (ADDRM a b c) e = (refl, λ l. refl)
told (ADDMR a b c) e = (refl, λ l. refl)
told (ADDI a b) e = (refl, λ l. refl)
told (ADDIM a b c) e = (refl, λ l. refl)
told (SUB a b) e = (refl, λ l. refl)
told (SUBRM a b c) e = (refl, λ l. refl)
told (SUBMR a b c) e = (refl, λ l. refl)
told (SUBI a b) e = (refl, λ l. refl)
told (IMUL a b) e = (refl, λ l. refl)
told (IMULRM a b c) e = (refl, λ l. refl)
told (IMULMR a b c) e = (refl, λ l. refl)
told (IDIV a) e = (refl, λ l. refl)
told (IDIVM a b) e = (refl, λ l. refl)
told CQO e = (refl, λ l. refl)
told (JMP a) e = never e
told (JMPL a) e = never e
told (JMPLN a) e = never e
told (LEAL a b) e = (refl, λ l. refl)
told (MOV a b) e = (refl, λ l. refl)
told (MOVS a b c) e = (refl, λ l. refl)
told (MOVL a b c) e = (refl, λ l. refl)
told (MOVI a b) e = (refl, λ l. refl)
told (MOVIM a b c) e = (refl, λ l. refl)
told (CMP a b) e = (refl, λ l. refl)
told (CMPRM a b c) e = (refl, λ l. refl)
told (CMPMR a b c) e = (refl, λ l. refl)
told (CMPI a b) e = (refl, λ l. refl)
told (CMPIM a b c) e = (refl, λ l. refl)
told (JEL a) e = never e
told (JNEL a) e = never e
told (JLL a) e = never e
told (JLEL a) e = never e
told (JGL a) e = never e
told (JGEL a) e = never e
told (PUSH a) e = (refl, λ l. refl)
told (POP a) e = (refl, λ l. refl)
told (CALL a) e = (refl, λ l. refl)
told RET e = never e
told (LAB a) e = never e
told NOEXECSTACK e = (refl, λ l. refl)
told TEXT e = (refl, λ l. refl)
told (GLOBAL a) e = (refl, λ l. refl)
told (EXTERN a) e = (refl, λ l. refl)

pub straight_no_lab : (label : ℕ) (x : Code) → straight x ≡ true → is_lab label x ≡ false
straight_no_lab label x e = (told x e).1 label

-- on to the next record, or a fault
abbrev pub Onward : Outcome → Type 0
Onward (next d) = Unit {0}
Onward (jump label d) = ⊥
Onward (end d) = ⊥
Onward (fault d) = Unit {0}

plainly_onward : (c : Config) (o : Outcome) → Onward (plainly c o)
plainly_onward c (next d) = tt
plainly_onward c (jump label d) = tt
plainly_onward c (end d) = tt
plainly_onward c (fault d) = tt

flow_onward : (words : ℕ → ℕ) (f : Flow) (c : Config) (o : Outcome) → goes_on f ≡ true → Onward (by_flow words f c o)
flow_onward words plain c o e = plainly_onward c o
flow_onward words (jumps label) c o e = never e
flow_onward words (branches holds label) c o e = never e
flow_onward words (mark label) c o e = never e
flow_onward words (calling label) c o e = both_ways Onward (is_print_name label && eqb (c.state.reg 0 % 16) 0) tt tt
flow_onward words returning c o e = never e
flow_onward words stops c o e = tt

pub straight_onward : (words : ℕ → ℕ) (x : Code) (c : Config) → straight x ≡ true → Onward (step words x c)
straight_onward words x c e = subst Onward (sym (step_by_flow words x c)) (flow_onward words (flow x) c (step words x c) (told x e).0)
