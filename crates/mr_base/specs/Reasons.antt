-- The reasons of undefined behaviour, by number and by name.
use Rattle.std.specs.Prelude.{ℕ, List, codes}
use Rattle.mr_base.specs.declared.reason.Reason.{Reason}
use Rattle.mr_base.specs.declared.reason.Reason.TheVariants.{DataRace, Unreachable, DeadLocal, Misaligned, NoProvenance}
use Rattle.mr_base.specs.declared.reason.Reason.TheVariants.{DeadAllocation, OutOfBounds, InvalidValue}
use Rattle.mr_base.specs.declared.reason.Reason.TheVariants.{DanglingReference, Overflow, ZeroDivisor, DivOverflow}
use Rattle.mr_base.specs.declared.reason.Reason.TheVariants.{ShiftAmount, OffsetOverflow, IndexOutOfRange}
use Rattle.mr_base.specs.declared.reason.Reason.TheVariants.{InvalidDiscriminant, TransmuteInvalid, NotAFunction}
use Rattle.mr_base.specs.declared.reason.Reason.TheVariants.{SignatureMismatch, NoReturnBlock, MainReturned}
use Rattle.mr_base.specs.declared.reason.Reason.TheVariants.{NoUnwindBlock, UnwoundThread, NoPayload, AssumeFalse}
use Rattle.mr_base.specs.declared.reason.Reason.TheVariants.{SizeTooLarge, BadAlign, FreeAddress, FreeKind, FreeSize}
use Rattle.mr_base.specs.declared.reason.Reason.TheVariants.{FreeAlign, UnknownThread, UnknownLock, NotHolder}

-- each reason has a number, from 100 on, and a name that stands behind it where a reason is printed
abbrev pub entry_of : Reason → ℕ × List ℕ
entry_of DataRace = (100, codes "DataRace")
entry_of Unreachable = (101, codes "Unreachable")
entry_of DeadLocal = (102, codes "DeadLocal")
entry_of Misaligned = (103, codes "Misaligned")
entry_of NoProvenance = (104, codes "NoProvenance")
entry_of DeadAllocation = (105, codes "DeadAllocation")
entry_of OutOfBounds = (106, codes "OutOfBounds")
entry_of InvalidValue = (107, codes "InvalidValue")
entry_of DanglingReference = (108, codes "DanglingReference")
entry_of Overflow = (109, codes "Overflow")
entry_of ZeroDivisor = (110, codes "ZeroDivisor")
entry_of DivOverflow = (111, codes "DivOverflow")
entry_of ShiftAmount = (112, codes "ShiftAmount")
entry_of OffsetOverflow = (113, codes "OffsetOverflow")
entry_of IndexOutOfRange = (114, codes "IndexOutOfRange")
entry_of InvalidDiscriminant = (115, codes "InvalidDiscriminant")
entry_of TransmuteInvalid = (116, codes "TransmuteInvalid")
entry_of NotAFunction = (117, codes "NotAFunction")
entry_of SignatureMismatch = (118, codes "SignatureMismatch")
entry_of NoReturnBlock = (119, codes "NoReturnBlock")
entry_of MainReturned = (120, codes "MainReturned")
entry_of NoUnwindBlock = (121, codes "NoUnwindBlock")
entry_of UnwoundThread = (122, codes "UnwoundThread")
entry_of NoPayload = (123, codes "NoPayload")
entry_of AssumeFalse = (124, codes "AssumeFalse")
entry_of SizeTooLarge = (125, codes "SizeTooLarge")
entry_of BadAlign = (126, codes "BadAlign")
entry_of FreeAddress = (127, codes "FreeAddress")
entry_of FreeKind = (128, codes "FreeKind")
entry_of FreeSize = (129, codes "FreeSize")
entry_of FreeAlign = (130, codes "FreeAlign")
entry_of UnknownThread = (131, codes "UnknownThread")
entry_of UnknownLock = (132, codes "UnknownLock")
entry_of NotHolder = (133, codes "NotHolder")

-- its number
abbrev pub code_of : Reason → ℕ
code_of r = (entry_of r).0

-- its name
abbrev pub name_of : Reason → List ℕ
name_of r = (entry_of r).1
