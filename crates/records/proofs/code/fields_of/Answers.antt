use mathlib.Core.Path.{sym, ap, ◌∙◌}
use Rattle.records.specs.Codes.{fields_of}
use Rattle.records.proofs.code.fields_of.Goals as goal

pub returns-in-ADD : goal.returns-in-ADD
returns-in-ADD c = c.of.ensures ∙ sym (ap fields_of c.in-ADD.is)

pub returns-in-ADDRM : goal.returns-in-ADDRM
returns-in-ADDRM c = c.of-in-ADDRM.ensures ∙ sym (ap fields_of c.in-ADDRM.is)

pub returns-in-ADDMR : goal.returns-in-ADDMR
returns-in-ADDMR c = c.of-in-ADDMR.ensures ∙ sym (ap fields_of c.in-ADDMR.is)

pub returns-in-ADDI : goal.returns-in-ADDI
returns-in-ADDI c = c.of-in-ADDI.ensures ∙ sym (ap fields_of c.in-ADDI.is)

pub returns-in-ADDIM : goal.returns-in-ADDIM
returns-in-ADDIM c = c.of-in-ADDIM.ensures ∙ sym (ap fields_of c.in-ADDIM.is)

pub returns-in-SUB : goal.returns-in-SUB
returns-in-SUB c = c.of-in-SUB.ensures ∙ sym (ap fields_of c.in-SUB.is)

pub returns-in-SUBRM : goal.returns-in-SUBRM
returns-in-SUBRM c = c.of-in-SUBRM.ensures ∙ sym (ap fields_of c.in-SUBRM.is)

pub returns-in-SUBMR : goal.returns-in-SUBMR
returns-in-SUBMR c = c.of-in-SUBMR.ensures ∙ sym (ap fields_of c.in-SUBMR.is)

pub returns-in-SUBI : goal.returns-in-SUBI
returns-in-SUBI c = c.of-in-SUBI.ensures ∙ sym (ap fields_of c.in-SUBI.is)

pub returns-in-IMUL : goal.returns-in-IMUL
returns-in-IMUL c = c.of-in-IMUL.ensures ∙ sym (ap fields_of c.in-IMUL.is)

pub returns-in-IMULRM : goal.returns-in-IMULRM
returns-in-IMULRM c = c.of-in-IMULRM.ensures ∙ sym (ap fields_of c.in-IMULRM.is)

pub returns-in-IMULMR : goal.returns-in-IMULMR
returns-in-IMULMR c = c.of-in-IMULMR.ensures ∙ sym (ap fields_of c.in-IMULMR.is)

pub returns-in-IDIV : goal.returns-in-IDIV
returns-in-IDIV c = c.of-in-IDIV.ensures ∙ sym (ap fields_of c.in-IDIV.is)

pub returns-in-IDIVM : goal.returns-in-IDIVM
returns-in-IDIVM c = c.of-in-IDIVM.ensures ∙ sym (ap fields_of c.in-IDIVM.is)

pub returns-in-CQO : goal.returns-in-CQO
returns-in-CQO c = c.of-in-CQO.ensures ∙ sym (ap fields_of c.in-CQO.is)

pub returns-in-JMP : goal.returns-in-JMP
returns-in-JMP c = c.of-in-JMP.ensures ∙ sym (ap fields_of c.in-JMP.is)

pub returns-in-JMPL : goal.returns-in-JMPL
returns-in-JMPL c = c.of-in-JMPL.ensures ∙ sym (ap fields_of c.in-JMPL.is)

pub returns-in-JMPLN : goal.returns-in-JMPLN
returns-in-JMPLN c = c.of-in-JMPLN.ensures ∙ sym (ap fields_of c.in-JMPLN.is)

pub returns-in-LEAL : goal.returns-in-LEAL
returns-in-LEAL c = c.of-in-LEAL.ensures ∙ sym (ap fields_of c.in-LEAL.is)

pub returns-in-MOV : goal.returns-in-MOV
returns-in-MOV c = c.of-in-MOV.ensures ∙ sym (ap fields_of c.in-MOV.is)

pub returns-in-MOVS : goal.returns-in-MOVS
returns-in-MOVS c = c.of-in-MOVS.ensures ∙ sym (ap fields_of c.in-MOVS.is)

pub returns-in-MOVL : goal.returns-in-MOVL
returns-in-MOVL c = c.of-in-MOVL.ensures ∙ sym (ap fields_of c.in-MOVL.is)

pub returns-in-MOVI : goal.returns-in-MOVI
returns-in-MOVI c = c.of-in-MOVI.ensures ∙ sym (ap fields_of c.in-MOVI.is)

pub returns-in-MOVIM : goal.returns-in-MOVIM
returns-in-MOVIM c = c.of-in-MOVIM.ensures ∙ sym (ap fields_of c.in-MOVIM.is)

pub returns-in-CMP : goal.returns-in-CMP
returns-in-CMP c = c.of-in-CMP.ensures ∙ sym (ap fields_of c.in-CMP.is)

pub returns-in-CMPRM : goal.returns-in-CMPRM
returns-in-CMPRM c = c.of-in-CMPRM.ensures ∙ sym (ap fields_of c.in-CMPRM.is)

pub returns-in-CMPMR : goal.returns-in-CMPMR
returns-in-CMPMR c = c.of-in-CMPMR.ensures ∙ sym (ap fields_of c.in-CMPMR.is)

pub returns-in-CMPI : goal.returns-in-CMPI
returns-in-CMPI c = c.of-in-CMPI.ensures ∙ sym (ap fields_of c.in-CMPI.is)

pub returns-in-CMPIM : goal.returns-in-CMPIM
returns-in-CMPIM c = c.of-in-CMPIM.ensures ∙ sym (ap fields_of c.in-CMPIM.is)

pub returns-in-JEL : goal.returns-in-JEL
returns-in-JEL c = c.of-in-JEL.ensures ∙ sym (ap fields_of c.in-JEL.is)

pub returns-in-JNEL : goal.returns-in-JNEL
returns-in-JNEL c = c.of-in-JNEL.ensures ∙ sym (ap fields_of c.in-JNEL.is)

pub returns-in-JLL : goal.returns-in-JLL
returns-in-JLL c = c.of-in-JLL.ensures ∙ sym (ap fields_of c.in-JLL.is)

pub returns-in-JLEL : goal.returns-in-JLEL
returns-in-JLEL c = c.of-in-JLEL.ensures ∙ sym (ap fields_of c.in-JLEL.is)

pub returns-in-JGL : goal.returns-in-JGL
returns-in-JGL c = c.of-in-JGL.ensures ∙ sym (ap fields_of c.in-JGL.is)

pub returns-in-JGEL : goal.returns-in-JGEL
returns-in-JGEL c = c.of-in-JGEL.ensures ∙ sym (ap fields_of c.in-JGEL.is)

pub returns-in-PUSH : goal.returns-in-PUSH
returns-in-PUSH c = c.of-in-PUSH.ensures ∙ sym (ap fields_of c.in-PUSH.is)

pub returns-in-POP : goal.returns-in-POP
returns-in-POP c = c.of-in-POP.ensures ∙ sym (ap fields_of c.in-POP.is)

pub returns-in-CALL : goal.returns-in-CALL
returns-in-CALL c = c.of-in-CALL.ensures ∙ sym (ap fields_of c.in-CALL.is)

pub returns-in-RET : goal.returns-in-RET
returns-in-RET c = c.of-in-RET.ensures ∙ sym (ap fields_of c.in-RET.is)

pub returns-in-LAB : goal.returns-in-LAB
returns-in-LAB c = c.of-in-LAB.ensures ∙ sym (ap fields_of c.in-LAB.is)

pub returns-in-NOEXECSTACK : goal.returns-in-NOEXECSTACK
returns-in-NOEXECSTACK c = c.of-in-NOEXECSTACK.ensures ∙ sym (ap fields_of c.in-NOEXECSTACK.is)

pub returns-in-TEXT : goal.returns-in-TEXT
returns-in-TEXT c = c.of-in-TEXT.ensures ∙ sym (ap fields_of c.in-TEXT.is)

pub returns-in-GLOBAL : goal.returns-in-GLOBAL
returns-in-GLOBAL c = c.of-in-GLOBAL.ensures ∙ sym (ap fields_of c.in-GLOBAL.is)

pub returns-in-EXTERN : goal.returns-in-EXTERN
returns-in-EXTERN c = c.of-in-EXTERN.ensures ∙ sym (ap fields_of c.in-EXTERN.is)
