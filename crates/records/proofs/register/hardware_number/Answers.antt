use Rattle.records.proofs.Hardware.{hardware_listed, hardware_none}
use Rattle.records.proofs.register.hardware_number.Goals as goal

pub returns-then-register-ge16 : goal.returns-then-register-ge16
returns-then-register-ge16 c = hardware_none _ c.if-register-ge16.true

pub returns : goal.returns
returns c = hardware_listed _ c.if-register-ge16.false
