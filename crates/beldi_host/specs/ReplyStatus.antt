-- That what is said of a ticket's reply is so in the run of a book.
use Rattle.std.specs.Prelude.{ℕ, List}
use Rattle.beldi_tree.specs.declared.deployment.Deployment.{Deployment}
use Rattle.beldi_book.specs.declared.entry.Entry.{Entry}
use Rattle.beldi_plain.specs.Replies.{HasNoReply, HasReply}
use Rattle.beldi_host.specs.declared.survey.ReplyStatus.{ReplyStatus, TheVariants.Unknown, TheVariants.Gone, TheVariants.Waiting, TheVariants.Reply}

-- what is said of a reply is so in the run of the book; where the row of a ticket that was issued is gone, nothing is said
abbrev pub IsStatusSo : Deployment → List Entry → ℕ → ReplyStatus → Type 0
IsStatusSo d book t Unknown = HasNoReply d book t
IsStatusSo d book t Gone = Unit {0}
IsStatusSo d book t Waiting = HasNoReply d book t
IsStatusSo d book t (Reply o) = HasReply d book t o
