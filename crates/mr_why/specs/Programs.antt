-- What is said of the rules of programs. This file is made of docs/CODES.md by .ci/codes.py.
use Rattle.std.specs.Prelude.{◌++◌, codes}
use Rattle.mr_ast.specs.declared.rule.Rule.{Rule}
use Rattle.mr_ast.specs.declared.rule.Rule.TheVariants as it
use Rattle.mr_why.specs.Words.{Words}

abbrev pub said_of_program : Rule → Words
said_of_program it.TypeSize = record {
  what = codes "The size of a type is above what a type may have.";
  cause = codes "A size, an array's count, or the product of the two above 1,048,576.";
  next = codes "Large data live on the heap: `allocate` takes up to 2^63 - 1 bytes.";
  example = codes "x: array(2097152, u8)";
}
said_of_program it.TypeAlign = record {
  what = codes "An alignment is no power of two of at most 4,096.";
  cause = codes "An alignment of 0, of 3, or of 8,192.";
  next = codes "Take 1, 2, 4, 8 and so on up to 4,096.";
  example = codes "x: tuple size 3 align 3 { }";
}
said_of_program it.FieldOutside = record {
  what = codes "A field, or a chunk of a union, ends behind the last byte of its type.";
  cause = codes "A size that is too small, or an offset that is too large.";
  next = codes "Offset and size of the field together may be at most the size of the type.";
  example = codes "x: tuple size 4 align 4 { 2: u32 }";
}
said_of_program it.FieldOverlap = record {
  what = codes "Two fields of a tuple share a byte.";
  cause = codes "An offset that is smaller than where the field before ends.";
  next = codes "Move the field. Fields that are to overlap belong into a union.";
  example = codes "x: tuple size 4 align 4 { 0: u32, 2: u8 }";
}
said_of_program it.SizeMultiple = record {
  what = codes "The size of a tuple, union or enum can't be divided by its alignment.";
  cause = codes "Padding at the end was left out.";
  next = codes "Round the size up to a multiple of the alignment.";
  example = codes "x: tuple size 5 align 4 { 0: u32, 4: u8 }";
}
said_of_program it.EnumVariant = record {
  what = codes "A variant doesn't fit its enum.";
  cause =
      codes "It has another size than the enum or a greater alignment, or its number is out of range or "
      ++ codes "stands twice.";
  next = codes "Give each variant the enum's own size, and each its own number of the discriminant's type.";
  example = codes "enum size 2 align 1 disc u8 { 0: tuple size 1 align 1 { } tag { } } known 0";
}
said_of_program it.EnumTag = record {
  what = codes "A tag doesn't fit its variant.";
  cause =
      codes "It ends behind the last byte, its number is out of range, or it lies on another tag or on data "
      ++ codes "of the variant.";
  next = codes "Put the tag into bytes that the variant's own fields don't use.";
  example = codes ".. { 0: tuple size 1 align 1 { 0: u8 } tag { 0: u8 = 1 } } ..";
}
said_of_program it.EnumTree = record {
  what = codes "The tree by which variants are told apart isn't right.";
  cause =
      codes "It leads to a variant that isn't there, reads behind the last byte, or has a case out of range "
      ++ codes "or twice.";
  next = codes "Each case has its own number of the integer that is read there; each `known N` names a variant.";
  example = codes "branch 0 u8 { 1 => known 0, 1 => known 0, _ => invalid }";
}
said_of_program it.UnionChunk = record {
  what = codes "The chunks of a union aren't right.";
  cause = codes "They aren't in order, two share a byte, or a field has data that no chunk keeps.";
  next =
      codes "List the ranges of bytes that carry data, by rising offset, so that they hold those of all "
      ++ codes "fields.";
  example = codes "union size 4 align 4 { 0: u32 } chunks { 0 2 }";
}
said_of_program it.Arguments = record {
  what = codes "A local is an argument twice, or is an argument and the returned local too.";
  cause = codes "One name twice in the head of a function.";
  next = codes "Give each argument and the result a local of its own.";
  example = codes "fn f(x, x) -> r {";
}
said_of_program it.FirstBlock = record {
  what = codes "A function begins with a block that isn't regular.";
  cause = codes "A cleanup block in front of the first regular one.";
  next = codes "Put the block that is entered first to the front.";
  example = codes "fn main() -> r { let r: unit; b0 cleanup: exit; }";
}
said_of_program it.BlockKind = record {
  what = codes "A block ends in a way that its kind doesn't have, or leads to a block of the wrong kind.";
  cause =
      codes "`return` in a cleanup block; a `goto` from a regular block to a catch block; `unwind` of a call "
      ++ codes "to a regular one.";
  next = codes "The table of the kinds of blocks in the guide says what each may do.";
  example = codes "b0 cleanup: return;";
}
said_of_program it.Place = record {
  what = codes "There is no such place.";
  cause =
      codes "A field, variant or element that the type hasn't; an index that is no `u64`; `deref` of "
      ++ codes "something that is no pointer.";
  next = codes "Look at the type of what stands in front. An index is a `u64`: write `[u64 0]`.";
  example = codes "x.3 of a tuple with two fields";
}
said_of_program it.Operand = record {
  what = codes "An operator is given what it doesn't take.";
  cause =
      codes "Two integers of different types; a bool beside an integer; an `offset` by anything but an "
      ++ codes "`i64`; a place where a value is meant.";
  next =
      codes "Both operands of arithmetic and comparison have one type. Use `cast`, and `load` for the value "
      ++ codes "at a place.";
  example = codes "add(u32 1, u8 2)";
}
said_of_program it.ConstRange = record {
  what = codes "A number is out of its type's range.";
  cause = codes "300 as a `u8`, or a minus in front of an unsigned number.";
  next = codes "Take a wider type, or the number that the bits mean.";
  example = codes "u8 300";
}
said_of_program it.Assign = record {
  what = codes "A value of one type is stored to a place of another.";
  cause = codes "An integer of another width; a type that is written in another way, field by field.";
  next = codes "Types are the same where they are written the same way. Use `cast` or `transmute`.";
  example = codes "x = u8 1; where x is a u32";
}
said_of_program it.Discriminant = record {
  what = codes "`disc` of something that is no enum, or of a variant that the enum hasn't.";
  cause = codes "A place of another type, or a number that no variant has.";
  next = codes "Give it an enum's place and one of its numbers.";
  example = codes "disc x = 7; of an enum with the variants 0 and 1";
}
said_of_program it.LiveLocal = record {
  what = codes "`live` or `dead` of an argument, or of the local that is returned.";
  cause = codes "These have storage as long as their function runs.";
  next = codes "Leave it out, or use another local.";
  example = codes "live r; where r is what the function returns";
}
said_of_program it.Switch = record {
  what = codes "A switch isn't right.";
  cause = codes "What is switched on is neither integer nor bool, a case is out of its range, or it stands twice.";
  next = codes "The cases of a bool are 0 and 1. `_ => block` is last and always there.";
  example = codes "switch true { 2 => b1, _ => b2 };";
}
said_of_program it.Callee = record {
  what = codes "What is called is no `fnptr`.";
  cause = codes "A pointer of another type, or an integer.";
  next = codes "Write `fn NAME`, load a place of type `fnptr`, or transmute to it.";
  example = codes "call raw 16() -> r to b1;";
}
said_of_program it.Intrinsic = record {
  what = codes "An intrinsic has the wrong arguments or the wrong result.";
  cause =
      codes "A number too many or too few; a `u64` where a lock's or a thread's number is a `u32`; a result "
      ++ codes "where it gives none, or none where it gives one.";
  next = codes "The table of intrinsics in the guide says what each takes and gives.";
  example = codes "do acquire(u64 0) to b1;";
}
said_of_program it.Payload = record {
  what = codes "What is thrown by `unwind` isn't of type `raw`.";
  cause = codes "A reference or an integer as payload.";
  next = codes "Throw a `raw` pointer, for example to a global that has the data.";
  example = codes "unwind u8 1 to b1;";
}
said_of_program it.GlobalRef = record {
  what = codes "A pointer in a global doesn't fit.";
  cause = codes "It leads further than the end of the other global, or into a function.";
  next = codes "Offsets go from 0 to the size of the global; of a function 0 alone.";
  example = codes "global g align 8 { &g + 9 }";
}
said_of_program it.GlobalForm = record {
  what = codes "A global has a size or an alignment that it may not have.";
  cause = codes "More than 1,048,576 bytes, or an alignment that no type could have.";
  next = codes "Take a smaller one, several globals, or the heap.";
  example = codes "global g align 3 { 0 }";
}
said_of_program it.MainForm = record {
  what = codes "The function that the program starts with takes arguments.";
  cause = codes "The `main` line names a function with arguments.";
  next = codes "Give `main` none, and let it call that function.";
  example = codes "fn main(x) -> r { .. } main main";
}
said_of_program it.Aggregate = record {
  what = codes "The parts of a value are not those of its type.";
  cause = codes "Too many or too few of them, or one of another type.";
  next = codes "A tuple has a part for each field, an array for each element, a union and a variant have one.";
  example = codes "tuple(array(2, u8), u8 1)";
}
said_of_program it.Cast = record {
  what = codes "A cast isn't one.";
  cause =
      codes "`cast` of a pointer, `transmute` to another size, `addrof` as a type that is neither `raw` nor "
      ++ codes "`ref`.";
  next = codes "A pointer keeps its provenance by `transmute` between pointer types.";
  example = codes "cast(u64, load(p)) where p is a raw";
}
