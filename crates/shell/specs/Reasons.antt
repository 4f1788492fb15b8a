-- What each refusal and each fault is called.
use Rattle.std.specs.Prelude.{ℕ, List, codes}
use Rattle.base.specs.declared.Refusal.{Refusal}
use Rattle.base.specs.declared.Refusal.TheVariants as refusal
use Rattle.shell.specs.declared.reasons.Fault.{Fault}
use Rattle.shell.specs.declared.reasons.Fault.TheVariants as fault

abbrev pub reason_of : Refusal → List ℕ
reason_of refusal.Colors = codes "1 colour count or worker outside its limits"
reason_of refusal.Ids = codes "2 ids not strictly ascending, or not below the colour count"
reason_of refusal.Space = codes "3 not enough space"
reason_of refusal.Cut = codes "4 input ends too early"
reason_of refusal.Damaged = codes "5 not a written form"
reason_of refusal.Runs = codes "6 runs do not start at 0, do not ascend, or reach the vertex count"
reason_of refusal.Vertices = codes "7 vertex count outside its limits"
reason_of refusal.Junction = codes "8 piece does not begin where the open unitig ends"
reason_of refusal.Coordinate = codes "9 coordinate names no set of this store"
reason_of refusal.Number = codes "10 number is neither the last nor the next"
reason_of refusal.Arguments = codes "11 last number with another call or other arguments"
reason_of refusal.Unopened = codes "13 no unitig is open"
reason_of refusal.Place = codes "14 no such closed unitig or vertex"
reason_of refusal.Altered = codes "15 state or buffers were altered"
reason_of refusal.Acyclic = codes "16 open unitig does not walk back to its first vertex"

abbrev pub fault_of : Fault → List ℕ
fault_of fault.Unknown = codes "unknown command (try help)"
fault_of fault.Missing = codes "words are missing"
fault_of fault.Extra = codes "more words than the command takes"
fault_of fault.Digits = codes "not a number"
fault_of fault.Large = codes "number too large"
fault_of fault.Many = codes "more items than the limit (see help)"
fault_of fault.Pair = codes "not OFFSET:COORDINATE"
fault_of fault.Hex = codes "not hexadecimal digits, two a byte"
fault_of fault.Way = codes "neither forward nor reverse, or neither line nor cycle"
fault_of fault.Length = codes "buffer length above the limit (see help)"
fault_of fault.Long = codes "line too long"
fault_of fault.Unstarted = codes "no store yet: start it first"
