use Rattle.mr_words.proofs.Common.{◌≡◌, ◌≤◌, take, count_by, closes, opens, words_of}
use Rattle.mr_words.proofs.bracket.brackets_before.Given as goal

abbrev pub invariant-loop-i : goal.invariant-loop-i
invariant-loop-i l =
    (l.opening ≡ count_by opens (take l.i (words_of l.tokens))) × (l.closing ≡ count_by closes (take l.i (words_of l.tokens))) × (l.opening ≤ l.i) × (l.closing ≤ l.i)
