-- The runs of books whose roots are transfers.
use Rattle.std.proofs.Common.{◌≡◌, ℕ, List, [], ◌∷◌, ◌++◌, Option, None, Some, sym, subst}
use Rattle.beldi_book.specs.declared.entry.Entry.{Entry}
use Rattle.beldi_book.specs.LinearOrder.{suffix, changes_of, prefix, if_change, linear, put_by, put_read, put_reads, version_of}
use Rattle.beldi_book.proofs.Orders.{front_back}
use Rattle.beldi_plain.specs.{PlainEntries.after, Legal.run_from, Plain.PlainState, Replies.starts_of}
use Rattle.beldi_plain_laws.proofs.{Maps.same_some, Transactions.some_of}
use Rattle.beldi_bank.specs.{Bank.bank_code, BankLaws.AreTransfers, BankLaws.TransfersKeepTheSum}
use Rattle.beldi_bank.proofs.BankKept.{Kept, StartsTransfer, after_kept, kept_nothing}

-- each start among the entries is one of a transfer
abbrev pub StartTransfers : List Entry → Type 0
StartTransfers [] = Unit {0}
StartTransfers (e ∷ es) = StartsTransfer e × StartTransfers es

pub run_kept : (es : List Entry) (p r : PlainState) → StartTransfers es → Kept p → run_from bank_code p es ≡ Some r → Kept r
run_kept [] p r starts h is = subst Kept (same_some is) h
run_kept (e ∷ es) p r starts h is =
    let w = some_of (after bank_code p e) (λ q. run_from bank_code q es) r is in
    run_kept es w.0 r starts.1 (after_kept p e w.0 starts.0 h w.1) w.2

-- ---- the linear order of a book has its starts
of_book : (es : List Entry) → AreTransfers (starts_of es) → StartTransfers es
of_book [] h = tt
of_book (Entry.Start t f a ∷ es) h = ((h.0, h.1), of_book es h.2)
of_book (e ∷ es) h = (tt, of_book es h)

if_change_starts : (o : Option ℕ) (e : Entry) (es : List Entry) → StartsTransfer e → StartTransfers es → StartTransfers (if_change o e es)
if_change_starts None e es first h = (first, h)
if_change_starts (Some s) e es first h = h

changes_start : (es : List Entry) → StartTransfers es → StartTransfers (changes_of es)
changes_start [] h = tt
changes_start (e ∷ es) h = if_change_starts (version_of e) e (changes_of es) h.0 (changes_start es h.1)

between : (xs : List Entry) (e : Entry) (ys : List Entry) → StartsTransfer e → StartTransfers (xs ++ ys) → StartTransfers (xs ++ e ∷ ys)
between [] e ys first h = (first, h)
between (x ∷ xs) e ys first h = (h.0, between xs e ys first h.1)

put_by_starts : (o : Option ℕ) (e : Entry) (es : List Entry) → StartsTransfer e → StartTransfers es → StartTransfers (put_by o e es)
put_by_starts None e es first h = h
put_by_starts (Some s) e es first h = between (prefix s es) e (suffix s es) first (subst StartTransfers (sym (front_back s es)) h)

puts_start : (es rs : List Entry) → StartTransfers es → StartTransfers rs → StartTransfers (put_reads es rs)
puts_start es [] h starts = h
puts_start es (r ∷ rs) h starts = puts_start (put_read r es) rs (put_by_starts (version_of r) r es starts.0 h) starts.1

pub transfers_keep : TransfersKeepTheSum
transfers_keep book p starts is =
    let h = of_book book starts in
    (run_kept (linear book) _ p (puts_start (changes_of book) book (changes_start book h) h) kept_nothing is).even
