-- What is said of the rules of texts. This file is made of docs/CODES.md by .ci/codes.py.
use Rattle.std.specs.Prelude.{◌++◌, codes}
use Rattle.mr_lex.specs.declared.rule.TextRule.{TextRule}
use Rattle.mr_lex.specs.declared.rule.TextRule.TheVariants as it
use Rattle.mr_why.specs.Words.{Words}

abbrev pub said_of_text : TextRule → Words
said_of_text it.BadByte = record {
  what = codes "The text has a byte that begins no token.";
  cause = codes "A character of another language: a quote, a `!`, a letter with an accent.";
  next =
      codes "Look at the line and column that are told, which count bytes; outside comments only letters, "
      ++ codes "digits, blanks and the signs of the grammar may stand.";
  example = codes "fn ma!n() -> r {";
}
said_of_text it.BadNumber = record {
  what = codes "A number is written in a way that numbers aren't.";
  cause =
      codes "A zero in front of other digits, as in `07`; a number of 2^128 or more; one of 2^64 or more "
      ++ codes "where a size, an offset or an address stands.";
  next = codes "Leave the zeros out. Sizes, offsets and addresses are below 2^64.";
  example = codes "do print(u8 042) to b1;";
}
said_of_text it.LongText = record {
  what = codes "The text has more than 2^20 bytes.";
  cause = codes "A program that was made by another program.";
  next = codes "Make it smaller: blanks and comments count too.";
  example = codes "a file of 1,048,577 bytes";
}
said_of_text it.Unexpected = record {
  what = codes "Here stands a token with which no program can go on.";
  cause =
      codes "A missing `;`, `to` or `,`; a keyword as a name; a place without `load` around it; a number "
      ++ codes "without its type.";
  next =
      codes "Read the token at this place and the one before it; the grammar of the guide has what may stand "
      ++ codes "here.";
  example = codes "x = 7;";
}
said_of_text it.UnknownName = record {
  what = codes "A name is used that its space doesn't hold.";
  cause =
      codes "A slip of the pen; a local of another function; a block that was renamed; a function or global "
      ++ codes "that isn't there.";
  next =
      codes "Locals and blocks belong to one function, functions and globals to the program. Define the "
      ++ codes "name, or write the one that was meant.";
  example = codes "goto b7; where no block is called b7";
}
said_of_text it.DoubleName = record {
  what = codes "A name is defined a second time in its space.";
  cause = codes "Two locals or two blocks of one function, or two functions or globals, with one name.";
  next = codes "Rename one of the two. A local and a block may share a name, and so may those of two functions.";
  example = codes "let r: unit, x: u8, x: u8;";
}
said_of_text it.TooDeep = record {
  what = codes "Too many brackets are open, or too many postfixes stand in a row.";
  cause =
      codes "An expression or a type that is nested deeper than 32; a place with more than 32 of `.N`, `[V]` "
      ++ codes "and `@N`.";
  next = codes "Store a part in a local first.";
  example = codes "not(not(not( .. 33 times";
}
said_of_text it.TooMany = record {
  what = codes "There are more things of one kind than there may be.";
  cause =
      codes "More than 256 functions, globals or locals, more than 1,024 blocks in a function, or more than "
      ++ codes "4,096 statements in a block.";
  next = codes "Spread them over several functions or blocks.";
  example = codes "a function with 257 locals";
}
said_of_text it.Exposed = record {
  what = codes "The operation exposes provenance, which this profile leaves out.";
  cause = codes "A cast between pointers and integers.";
  next =
      codes "Keep the pointer a pointer: move it by `offset` or `wrapping_offset`, or write an address "
      ++ codes "without provenance as `raw N`.";
  example = codes "do expose_provenance(load(p)) -> n to b1;";
}
