-- What a call that never returns Memory returns when it is out of memory.
use Rattle.std.specs.Prelude.{Result, Ok, Err}
use Rattle.disk.specs.declared.fault.Fault.{Fault}
use Rattle.disk.specs.declared.fault.Fault.TheVariants.{Absent, Exists, Failed, Memory}

-- a refused growth is reported as a failure, and all else as it is
abbrev pub told_as : {T : Type 0} → Result T Fault → Result T Fault
told_as (Ok value) = Ok value
told_as (Err Memory) = Err Failed
told_as (Err Absent) = Err Absent
told_as (Err Exists) = Err Exists
told_as (Err Failed) = Err Failed
