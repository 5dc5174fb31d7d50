-- After the first replies their lines stand in the text.
use Rattle.std.proofs.Common.{◌≡◌, ◌++◌, string_bytes, take}
use Rattle.std.specs.List.{flat_map}
use Rattle.report_text.specs.Report.{reply_line}
use Rattle.report_text.proofs.report.push_replies.Given as goal

abbrev pub invariant-loop-reply : goal.invariant-loop-reply
invariant-loop-reply l =
    string_bytes l.text ≡ string_bytes l.initial.text ++ flat_map (reply_line l.mutator) (take l.reply-index l.replies)
