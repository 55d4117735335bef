-- The words and numbers of faults and refusals.
use Rattle.std.specs.Prelude.{ℕ, List, codes}
use Rattle.ws_base.specs.declared.fault.FaultName.{FaultName}
use Rattle.ws_base.specs.declared.fault.FaultName.TheVariants as fault
use Rattle.ws_base.specs.declared.refusal.RefusalKind.{RefusalKind}
use Rattle.ws_base.specs.declared.refusal.RefusalKind.TheVariants as kind

-- the word of a fault, and its number
abbrev pub fault_row : FaultName → List ℕ × ℕ
fault_row fault.Bounds = (codes "Bounds", 1)
fault_row fault.Shape = (codes "Shape", 2)
fault_row fault.Overflow = (codes "Overflow", 3)
fault_row fault.DivideByZero = (codes "DivideByZero", 4)
fault_row fault.ZeroStride = (codes "ZeroStride", 5)
fault_row fault.ManyOne = (codes "ManyOne", 6)
fault_row fault.Unallocated = (codes "Unallocated", 7)
fault_row fault.Allocated = (codes "Allocated", 8)
fault_row fault.TooLarge = (codes "TooLarge", 9)
fault_row fault.DataEnd = (codes "DataEnd", 10)
fault_row fault.DataBad = (codes "DataBad", 11)
fault_row fault.Steps = (codes "Steps", 12)

abbrev pub fault_name : FaultName → List ℕ
fault_name f = (fault_row f).0

abbrev pub fault_number : FaultName → ℕ
fault_number f = (fault_row f).1

-- the word of a kind of refusal, and its number
abbrev pub kind_row : RefusalKind → List ℕ × ℕ
kind_row kind.Syntax = (codes "Syntax", 1)
kind_row kind.Unsupported = (codes "Unsupported", 2)
kind_row kind.Undeclared = (codes "Undeclared", 3)
kind_row kind.Redeclared = (codes "Redeclared", 4)
kind_row kind.TypeWrong = (codes "TypeWrong", 5)
kind_row kind.RankWrong = (codes "RankWrong", 6)
kind_row kind.NotAllocatable = (codes "NotAllocatable", 7)
kind_row kind.NotInWorkshare = (codes "NotInWorkshare", 8)
kind_row kind.DoVariable = (codes "DoVariable", 9)
kind_row kind.OverLimit = (codes "OverLimit", 10)

abbrev pub kind_text : RefusalKind → List ℕ
kind_text k = (kind_row k).0

abbrev pub kind_number : RefusalKind → ℕ
kind_number k = (kind_row k).1
