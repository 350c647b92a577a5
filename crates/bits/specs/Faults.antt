-- The refusal that a fault is.
use Rattle.bits.specs.declared.refusal.Refusal.{Refusal}
use Rattle.bits.specs.declared.refusal.Refusal.TheVariants.{Truncated, Thrift, Schema, Codec, Encoding, Page, Levels, Value, Utf8, Limit, Memory}
use Rattle.bits.specs.declared.fault.Fault.{Fault}
use Rattle.bits.specs.declared.fault.Fault.TheVariants as fault

-- the refusal of the same name as a fault
abbrev pub refusal_of : Fault → Refusal
refusal_of fault.Truncated = Truncated
refusal_of fault.Thrift = Thrift
refusal_of fault.Schema = Schema
refusal_of fault.Codec = Codec
refusal_of fault.Encoding = Encoding
refusal_of fault.Page = Page
refusal_of fault.Levels = Levels
refusal_of fault.Value = Value
refusal_of fault.Utf8 = Utf8
refusal_of fault.Limit = Limit
refusal_of fault.Memory = Memory
