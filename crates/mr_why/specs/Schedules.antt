-- What is said of the rules of schedules. This file is made of docs/CODES.md by .ci/codes.py.
use Rattle.std.specs.Prelude.{◌++◌, codes}
use Rattle.mr_sched.specs.declared.rule.ScheduleRule.{ScheduleRule}
use Rattle.mr_sched.specs.declared.rule.ScheduleRule.TheVariants as it
use Rattle.mr_why.specs.Words.{Words}

abbrev pub said_of_schedule : ScheduleRule → Words
said_of_schedule it.BadHeader = record {
  what = codes "The first line is no header of a schedule.";
  cause = codes "The file is a program, its line ends are those of Windows, or the first line isn't ended.";
  next = codes "The first line is `schedule 1` or `schedule 2`, and nothing else.";
  example = codes "schedule 3";
}
said_of_schedule it.BadLine = record {
  what = codes "A line has another form.";
  cause =
      codes "Two spaces, a tab, a space at the end, a line without an end, line ends of Windows, a comment; "
      ++ codes "in version 2 a `T*1`, or two lines that must be one.";
  next = codes "An entry is a thread, and behind it the picks that it asks for, with one space in front of each.";
  example = codes "0  8192";
}
said_of_schedule it.TooLong = record {
  what = codes "The schedule has more than 2^22 entries, or its text more than 2^26 bytes.";
  cause = codes "A recording without end.";
  next = codes "Cut it. Each front of a schedule is a schedule.";
  example = codes "an entry with the number 4,194,305";
}
said_of_schedule it.NotEnabled = record {
  what = codes "The thread of this entry can't go on.";
  cause =
      codes "There is no thread of that number yet; it waits for a lock or for the end of another one; it "
      ++ codes "has ended.";
  next = codes "Take an entry of another thread first: that which holds the lock, or which is waited for.";
  example = codes "1 before thread 1 was spawned";
}
said_of_schedule it.MissingPick = record {
  what = codes "The step asks for more picks than the entry has.";
  cause =
      codes "`live`, a call, `allocate` and `spawn` ask for addresses, and a release where threads wait asks "
      ++ codes "which of them gets the lock.";
  next =
      codes "Write an address for each: a multiple of the alignment, whose bytes no earlier allocation has. "
      ++ codes "`mirace auto` makes them.";
  example = codes "0 where the step is `live x`";
}
said_of_schedule it.ExtraPick = record {
  what = codes "The entry has more picks than the step asks for.";
  cause = codes "The step is another than was thought: an address for a `goto`, or a waiter where nobody waits.";
  next = codes "Count the steps: each statement and each terminator is one.";
  example = codes "0 8192 where the step is `goto b1`";
}
said_of_schedule it.BadAddress = record {
  what = codes "An address may not be picked.";
  cause = codes "It is 0, no multiple of the alignment, or the bytes would end behind 2^64 - 1.";
  next = codes "Take a multiple of the alignment, from 16 on.";
  example = codes "0 8193 where x is a u32";
}
said_of_schedule it.Reused = record {
  what = codes "The bytes at this address were those of an earlier allocation, maybe a dead one.";
  cause = codes "An address was given twice; functions and globals have addresses too, from the start line.";
  next =
      codes "Take an address above all that were used; the two numbers name the earlier allocation: the "
      ++ codes "thread that made it, and how many it had made before.";
  example = codes "start 16 16";
}
said_of_schedule it.NotWaiting = record {
  what = codes "The thread that is to get the lock doesn't wait for it.";
  cause =
      codes "The number behind the release is that of a thread that goes on, waits for another lock or isn't "
      ++ codes "there.";
  next = codes "Name one of the threads that wait for this lock.";
  example = codes "0 2 where thread 1 waits";
}
said_of_schedule it.AfterStop = record {
  what = codes "The machine had stopped before this entry.";
  cause = codes "The program ended, a step was undefined, or two steps raced, before the schedule was through.";
  next = codes "Cut the schedule behind the step that stopped it.";
  example = codes "an entry behind that of `exit`";
}
said_of_schedule it.TooManyThreads = record {
  what = codes "The step would make one thread more than 1,024.";
  cause = codes "A loop that spawns. Threads that have ended count too.";
  next = codes "Spawn fewer.";
  example = codes "the 1,024th spawn";
}
said_of_schedule it.TooManyLocks = record {
  what = codes "The step would make one lock more than 4,096.";
  cause = codes "A loop that creates locks.";
  next = codes "Create fewer.";
  example = codes "the 4,097th create_lock";
}
