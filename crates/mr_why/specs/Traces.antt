-- What is said of the faults of traces. This file is made of docs/CODES.md by .ci/codes.py.
use Rattle.std.specs.Prelude.{◌++◌, codes}
use Rattle.mr_base.specs.declared.trace_rule.TraceRule.{TraceRule}
use Rattle.mr_base.specs.declared.trace_rule.TraceRule.TheVariants as it
use Rattle.mr_why.specs.Words.{Words}

abbrev pub said_of_trace : TraceRule → Words
said_of_trace it.BadMagic = record {
  what = codes "The file is no trace: its first five bytes are others.";
  cause = codes "It is a program or a schedule; or a tool that wrote it left the header out.";
  next = codes "A trace begins with the bytes 4d 52 54 52 01.";
  example = codes "mirace offline examples/exit.mr";
}
said_of_trace it.BadField = record {
  what = codes "A number has a value that it may not have.";
  cause =
      codes "A thread of 1,024 or more, a kind of event or of access that isn't there, an access of no byte, "
      ++ codes "or one past the last address.";
  next = codes "The guide has the values of each field.";
  example = codes "an access of length 0";
}
said_of_trace it.Truncated = record {
  what = codes "The file ends before the end of a number that must follow.";
  cause = codes "It was cut, or a count is too large.";
  next = codes "Look whether the writing program was through.";
  example = codes "the first 20 bytes of a trace";
}
said_of_trace it.Trailing = record {
  what = codes "A byte follows the last step.";
  cause = codes "The count of steps is too small, or two traces stand in one file.";
  next = codes "The count behind the header is that of all steps.";
  example = codes "a trace with one byte more";
}
said_of_trace it.TooLong = record {
  what = codes "The file has more than 2^28 bytes.";
  cause = codes "The run was too long.";
  next = codes "Trace a front of the run.";
  example = codes "a file of 268,435,457 bytes";
}
