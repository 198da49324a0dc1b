-- What is told of the accounts after generated work.
use Rattle.std.specs.Prelude.{◌≡◌, ◌⊎◌, ℕ, List, Option, codes}
use Rattle.beldi_script.specs.LineCut.{lines_of}
use Rattle.beldi_generator.specs.Summary.{past, summary_text, totals_text}
use Rattle.beldi_bank_lines.specs.BankLines.{totals_of}
use Rattle.beldi_session.specs.Session.{Writes}

-- what a summary of this text ends with
abbrev pub totals_in : List ℕ → List ℕ
totals_in text = totals_text (past (codes "== tables") (lines_of text))

-- together the accounts have a hundred times as much as there are of them; or the table failed as they were to be listed
abbrev pub IsBalanced : List ℕ → Type 0
IsBalanced totals = (totals ≡ codes "dropped\n") ⊎ ((accounts : ℕ) × (totals ≡ totals_of accounts))

-- the summary of a session of so many requests was told, and it is balanced
abbrev pub ToldBalanced : ℕ → Option (List ℕ) → Option (List ℕ) → Type 0
ToldBalanced requests held held' = (text : List ℕ) × Writes held held' (summary_text requests text) × IsBalanced (totals_in text)
