-- What is said of a line that a script may not have.
use Rattle.std.specs.Prelude.{ℕ, List, ◌++◌, codes, decimal}
use Rattle.script.specs.declared.expected.BadLine.{BadLine}
use Rattle.script.specs.declared.expected.Expected.{Expected}
use Rattle.script.specs.declared.expected.Expected.TheVariants as what
use Rattle.script.specs.declared.expected.LineFault.{LineFault}
use Rattle.script.specs.declared.expected.LineFault.TheVariants as fault

abbrev pub expected_text : Expected → List ℕ
expected_text what.LineName = codes "kind, parameters, carrier, disturb, link, cycle, serve or place"
expected_text what.End = codes "the end of the line"
expected_text what.Text = codes "text in UTF-8"
expected_text what.KindName = codes "meter or draw"
expected_text what.Consumer = codes "consumer=N, a number of 32 bits"
expected_text what.Provider = codes "provider=N, a number of 32 bits"
expected_text what.Base = codes "base=N,N,N,N, each a number of 32 bits"
expected_text what.Level = codes "level=N"
expected_text what.Timeout = codes "timeout=N"
expected_text what.Interval = codes "interval=N"
expected_text what.Acknowledgment = codes "acknowledgment=yes or acknowledgment=no"
expected_text what.CarrierName = codes "publishing or calling"
expected_text what.Memories = codes "calling UP DOWN, the octets of two memories"
expected_text what.Code = codes "numbers only"
expected_text what.Start = codes "start=N, a number of 32 bits"
expected_text what.Reading = codes "a clock reading, a number of 64 bits"
expected_text what.Enable = codes "enable or disable"
expected_text what.CycleOption = codes "ack or buffer=N, each at most once"
expected_text what.Record = codes "a record: pulses of 32 bits, stop, run or preset"
expected_text what.Temperature = codes "a temperature from -32768 to 32767"
expected_text what.Validity = codes "valid or invalid"
expected_text what.Amount = codes "a decimal number, 0x and 16 digits, inf, -inf or nan"
expected_text what.ServeOption = codes "operator-ack, activate-fsv, test-mode or buffer=N, each at most once"
expected_text what.LaneName = codes "up or down"
expected_text what.Octets = codes "pairs of hexadecimal digits"
expected_text what.GoodParameters = codes "a good parameters line first"
expected_text what.LinkFirst = codes "link start=N first"
expected_text what.RecordOfKind = codes "a record of the link's kind"

-- why a line was not read
abbrev pub fault_text : LineFault → List ℕ
fault_text (fault.Expected expected) = codes ": expected " ++ expected_text expected
fault_text fault.Memory = codes ": out of memory"

-- line NUMBER: why
abbrev pub bad_line_text : BadLine → List ℕ
bad_line_text bad = codes "line " ++ (decimal bad.number ++ fault_text bad.fault)
