-- What is said of the reasons of undefined behaviour. This file is made of docs/CODES.md by .ci/codes.py.
use Rattle.std.specs.Prelude.{ℕ, ◌==◌, List, [], ◌∷◌, Option, ◌++◌, codes}
use Rattle.std.specs.List.{find}
use Rattle.mr_base.specs.Reasons.{code_of}
use Rattle.mr_base.specs.declared.reason.Reason.{Reason}
use Rattle.mr_base.specs.declared.reason.Reason.TheVariants as it
use Rattle.mr_why.specs.Words.{Words}

abbrev pub said_of_reason : Reason → Words
said_of_reason it.DataRace = record {
  what = codes "Two steps of two threads race, and one was right behind the other.";
  cause =
      codes "Both use some byte, at least one stores, at least one of the two isn't atomic, and nothing "
      ++ codes "orders them.";
  next = codes "Put a lock around both, join the thread first, or make both atomic.";
  example = codes "g = 1 in two threads, without a lock";
}
said_of_reason it.Unreachable = record {
  what = codes "`unreachable` was reached.";
  cause = codes "A case was thought to be impossible.";
  next = codes "Look at the switch or the call that leads here.";
  example = codes "b0 regular: unreachable;";
}
said_of_reason it.DeadLocal = record {
  what = codes "A local is used that has no storage.";
  cause = codes "`live` is missing, or `dead` came before.";
  next = codes "Write `live x` before the first use. Arguments and the returned local need none.";
  example = codes "x = u8 1; without a live x before it";
}
said_of_reason it.Misaligned = record {
  what = codes "The address of an access is no multiple of its type's alignment.";
  cause = codes "A pointer that was moved by a number of bytes, or a field of a packed type behind `deref`.";
  next = codes "Move by multiples of the size, or load through a type with a smaller alignment.";
  example = codes "load(deref(global g + 1, u16))";
}
said_of_reason it.NoProvenance = record {
  what = codes "Bytes are used through a pointer that has no provenance.";
  cause = codes "An address that was written as a number, or a pointer that went through an integer.";
  next = codes "Take the pointer from `addrof`, `global`, `allocate` or another pointer.";
  example = codes "load(deref(raw 16, u8))";
}
said_of_reason it.DeadAllocation = record {
  what = codes "The bytes are those of an allocation that is dead.";
  cause = codes "It was freed, its local is dead, or its function has returned.";
  next = codes "Use it before, or let it live longer.";
  example = codes "load(deref(load(p), u8)) after the deallocate of what p points to";
}
said_of_reason it.OutOfBounds = record {
  what = codes "The bytes lie outside the pointer's allocation.";
  cause = codes "An index or an offset too far, also by one.";
  next = codes "A pointer may stand right behind the last byte, but no byte is used there.";
  example = codes "load(deref(global g + 8, u8)) where g has 8 bytes";
}
said_of_reason it.InvalidValue = record {
  what = codes "The loaded bytes mean no value of the type.";
  cause = codes "They are uninitialised; or a bool above 1, a null reference, an enum that its tree doesn't know.";
  next = codes "Store a value first; load with the type that was stored.";
  example = codes "live x; do print(load(x)) to b1;";
}
said_of_reason it.DanglingReference = record {
  what = codes "A reference in a value leads to bytes that aren't those of a live allocation.";
  cause = codes "What it points to was freed or is too small, or it was made from a number.";
  next = codes "Use `raw` where a pointer may dangle.";
  example = codes "q = transmute(ref 1 1, raw 16);";
}
said_of_reason it.Overflow = record {
  what = codes "The result of an unchecked operator doesn't fit its type.";
  cause = codes "`add_unchecked`, `sub_unchecked` or `mul_unchecked` past the range.";
  next = codes "Use `add`, which wraps, or `add_overflow`, which tells.";
  example = codes "add_unchecked(i8 127, i8 1)";
}
said_of_reason it.ZeroDivisor = record {
  what = codes "A division by 0, or its remainder.";
  cause = codes "A divisor that wasn't looked at.";
  next = codes "Switch on it first.";
  example = codes "div(u8 1, u8 0)";
}
said_of_reason it.DivOverflow = record {
  what = codes "The least number of a type is divided by -1.";
  cause = codes "The result is one more than the greatest number.";
  next = codes "Look for both numbers first.";
  example = codes "div(i8 -128, i8 -1)";
}
said_of_reason it.ShiftAmount = record {
  what = codes "An unchecked shift by a negative number, or by the width or more.";
  cause = codes "An amount that wasn't looked at.";
  next = codes "Use `shl` or `shr`, which take the amount modulo the width.";
  example = codes "shl_unchecked(u8 1, u8 8)";
}
said_of_reason it.OffsetOverflow = record {
  what = codes "A pointer is moved below address 0 or above 2^64 - 1.";
  cause = codes "An offset with the wrong sign.";
  next = codes "`wrapping_offset` may go round, and the access is judged later.";
  example = codes "offset(raw 8, i64 -9)";
}
said_of_reason it.IndexOutOfRange = record {
  what = codes "An index isn't below the array's count.";
  cause = codes "A loop that goes one too far.";
  next = codes "Compare with the count first.";
  example = codes "a[u64 3] where a is an array(3, u16)";
}
said_of_reason it.InvalidDiscriminant = record {
  what = codes "The bytes of an enum name none of its variants.";
  cause = codes "They are uninitialised, or were stored with another type.";
  next = codes "Store a variant first.";
  example = codes "live e; do print(disc(e)) to b1;";
}
said_of_reason it.TransmuteInvalid = record {
  what = codes "The bytes of a transmute mean no value of its type.";
  cause = codes "A number that is no bool or no variant.";
  next = codes "Look at the number first, or transmute to an integer.";
  example = codes "transmute(bool, u8 2)";
}
said_of_reason it.NotAFunction = record {
  what = codes "What is called or spawned doesn't point to the begin of a function.";
  cause = codes "A pointer to data, a moved pointer, or one made from a number.";
  next = codes "Take the pointer from `fn NAME`.";
  example = codes "call transmute(fnptr, raw 16)() -> u to b1;";
}
said_of_reason it.SignatureMismatch = record {
  what = codes "The arguments or the place of a call aren't those of its function.";
  cause =
      codes "Another number or another type; a spawned function that doesn't take one `raw` and return "
      ++ codes "`unit`.";
  next = codes "Compare with the head of the function, and with the types of its locals.";
  example = codes "call fn f(u8 1) -> u to b1; where f takes nothing";
}
said_of_reason it.NoReturnBlock = record {
  what = codes "A function returns to a call without `to`.";
  cause = codes "The call was thought never to return.";
  next = codes "Give the call a block to go on with.";
  example = codes "call fn f() -> u; and f returns";
}
said_of_reason it.MainReturned = record {
  what = codes "The first frame of thread 0 returns.";
  cause = codes "The main function ends with `return`.";
  next = codes "End it with `exit`.";
  example = codes "return; in main";
}
said_of_reason it.NoUnwindBlock = record {
  what = codes "A function resumes to a call without `unwind`.";
  cause = codes "The call was thought never to unwind.";
  next = codes "Give the call a cleanup or a catch block.";
  example = codes "call fn f() -> u to b1; and f unwinds and resumes";
}
said_of_reason it.UnwoundThread = record {
  what = codes "The first frame of a thread resumes.";
  cause = codes "Nobody catches what was thrown.";
  next = codes "Catch it in a frame below, with a catch block and `stop`.";
  example = codes "resume; in main, which unwound";
}
said_of_reason it.NoPayload = record {
  what = codes "The thread has no payload.";
  cause = codes "Nothing was thrown, or it was caught already.";
  next = codes "Read it in the cleanup or catch block, before `stop`.";
  example = codes "do payload() -> p to b1; in a regular block";
}
said_of_reason it.AssumeFalse = record {
  what = codes "`assume` of false.";
  cause = codes "What was thought to hold doesn't.";
  next = codes "Look at the values at this step.";
  example = codes "do assume(false) to b1;";
}
said_of_reason it.SizeTooLarge = record {
  what = codes "An allocation of 2^63 bytes or more.";
  cause = codes "A size that was computed below 0.";
  next = codes "Look at the computation.";
  example = codes "do allocate(u64 9223372036854775808, u64 1) -> p to b1;";
}
said_of_reason it.BadAlign = record {
  what = codes "The alignment of an allocation is no power of two.";
  cause = codes "A size in place of the alignment.";
  next = codes "Size first, then alignment.";
  example = codes "do allocate(u64 8, u64 3) -> p to b1;";
}
said_of_reason it.FreeAddress = record {
  what = codes "A pointer is freed that isn't to the begin of its allocation.";
  cause = codes "It was moved.";
  next = codes "Keep the pointer that `allocate` gave.";
  example = codes "do deallocate(offset(load(p), i64 8), u64 16, u64 8) to b1;";
}
said_of_reason it.FreeKind = record {
  what = codes "Something is freed that `allocate` didn't make.";
  cause = codes "A pointer to a local, a global or a function.";
  next = codes "Leave it out.";
  example = codes "do deallocate(global g + 0, u64 8, u64 8) to b1;";
}
said_of_reason it.FreeSize = record {
  what = codes "An allocation is freed with another size.";
  cause = codes "The sizes of `allocate` and `deallocate` differ.";
  next = codes "Give both the same.";
  example = codes "do deallocate(load(p), u64 8, u64 8) to b1; of 16 bytes";
}
said_of_reason it.FreeAlign = record {
  what = codes "An allocation is freed with another alignment.";
  cause = codes "The alignments of `allocate` and `deallocate` differ.";
  next = codes "Give both the same.";
  example = codes "do deallocate(load(p), u64 16, u64 4) to b1; of an alignment of 8";
}
said_of_reason it.UnknownThread = record {
  what = codes "A thread is joined that isn't there.";
  cause = codes "A wrong number; threads count from 0, the main one, in the order in which they are spawned.";
  next = codes "Keep what `spawn` gives.";
  example = codes "do join(u32 1) to b1; in a program of one thread";
}
said_of_reason it.UnknownLock = record {
  what = codes "A lock is taken or given back that isn't there.";
  cause = codes "It wasn't created before; locks count from 0.";
  next = codes "Keep what `create_lock` gives.";
  example = codes "do acquire(u32 0) to b1; before a lock is created";
}
said_of_reason it.NotHolder = record {
  what = codes "A lock is given back by a thread that doesn't have it.";
  cause = codes "It was given back before, or another thread has it.";
  next = codes "Acquire first, release once.";
  example = codes "do release(u32 0) to b1; of a lock that nobody has";
}

-- all of them, by their numbers
abbrev pub reasons : List Reason
reasons =
    it.DataRace ∷ it.Unreachable ∷ it.DeadLocal ∷ it.Misaligned ∷
    it.NoProvenance ∷ it.DeadAllocation ∷ it.OutOfBounds ∷ it.InvalidValue ∷
    it.DanglingReference ∷ it.Overflow ∷ it.ZeroDivisor ∷ it.DivOverflow ∷
    it.ShiftAmount ∷ it.OffsetOverflow ∷ it.IndexOutOfRange ∷ it.InvalidDiscriminant ∷
    it.TransmuteInvalid ∷ it.NotAFunction ∷ it.SignatureMismatch ∷ it.NoReturnBlock ∷
    it.MainReturned ∷ it.NoUnwindBlock ∷ it.UnwoundThread ∷ it.NoPayload ∷
    it.AssumeFalse ∷ it.SizeTooLarge ∷ it.BadAlign ∷ it.FreeAddress ∷
    it.FreeKind ∷ it.FreeSize ∷ it.FreeAlign ∷ it.UnknownThread ∷
    it.UnknownLock ∷ it.NotHolder ∷ []

-- the one of a number, where there is one
abbrev pub reason_of : ℕ → Option Reason
reason_of code = find (λ r. code_of r == code) reasons
