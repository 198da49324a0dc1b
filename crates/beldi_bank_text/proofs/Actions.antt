-- What a session carries out of generated work.
use Rattle.std.proofs.Common.{arith, ◌≡◌, ℕ, zero, suc, ◌<◌, ◌+◌, ◌%◌, ◌^◌, ◌++◌, ◌&&◌, append_assoc, codes, Bool, true, List, [], ◌∷◌, Result, None, Ok, Err, refl, ap, subst, sym, ◌∙◌}
use Rattle.std.proofs.lemmas.{Nat.mod_below}
use Rattle.std.proofs.Transfers.{drop-appended}
use Rattle.beldi_value.specs.declared.value.Value.{Value}
use Rattle.beldi_check.specs.CallGraph.{through}
use Rattle.beldi_script.specs.{LineCut.lines_of, ScriptLine.line_at, declared.line.Line.Line, declared.line.ScriptErr.ScriptErr}
use Rattle.beldi_generator.specs.Generated.{bank, fate_text, fifth, request_of, request_text, requests_from, transfer_text}
use Rattle.beldi_bank.specs.Bank.{bank_code, IsTransfer}
use Rattle.beldi_session.specs.{Script.Action, Script.actions_in, Script.actions_of, Script.and_then, Script.is_ok, Script.is_whole, Script.times, Source.accepted, Source.next, Source.numbered, Source.refusal_in, Source.said_by, Source.source_by}
use Rattle.beldi_bank_text.specs.BankText.{AreWork, GeneratedIsTheBank, GeneratedIsWork, IsWork, IsWorkThenListings, bank_source}
use Rattle.beldi_bank_text.proofs.{TextLines.AreOther, TextLines.IsOther, TextLines.cut, TextLines.fate_line, TextLines.request_line, TextLines.request_printed, TextLines.two_lines, Read.text_is_the_bank, Transfers.args_of, Transfers.args_transfer, Transfers.IsOtherLine, Transfers.other_read, Transfers.request_read}

-- ---- the actions of a line
times_work : (n : ℕ) (a : Action) → IsWork a → AreWork (times n a)
times_work zero a h = tt
times_work (suc n) a h = (h, times_work n a h)

-- of one that is no request, tells nothing, and is for no log collector
other_work : (line : Line) → IsOtherLine line → AreWork (actions_of line)
other_work Line.Blank h = tt
other_work Line.Ticket h = (tt, tt)
other_work (Line.Request t f a) h = absurd h
other_work (Line.Turn r n) h = times_work n _ tt
other_work (Line.Lost r) h = (tt, tt)
other_work (Line.Crash r) h = (tt, tt)
other_work (Line.Restart id f) h = (tt, tt)
other_work (Line.Ic n) h = times_work n _ tt
other_work (Line.Gc k n) h = absurd h
other_work (Line.Sweep k n) h = absurd h
other_work (Line.Settle n) h = (tt, tt)
other_work (Line.Tick n) h = (tt, tt)
other_work Line.Halt h = (tt, tt)
other_work (Line.Reply t) h = absurd h
other_work Line.Rows h = absurd h
other_work Line.Tables h = absurd h
other_work Line.Book h = absurd h

-- ---- with what follows
work_ahead : (actions more : List Action) → AreWork actions → IsWorkThenListings more → IsWorkThenListings (actions ++ more)
work_ahead [] more h g = g
work_ahead (a ∷ actions) more h g = let w = work_ahead actions more h.1 g in (a ∷ w.0, ap (λ l. a ∷ l) w.1, (h.0, w.2))

-- behind a line that is not refused
line_ahead : (n : ℕ) (r : Result Line ScriptErr) (whole : Bool) (more : List Action)
    → ((line : Line) → r ≡ Ok line → AreWork (actions_of line)) → (whole ≡ true → IsWorkThenListings more) → (is_ok (said_by n r) && whole) ≡ true → IsWorkThenListings (and_then (said_by n r) more)
line_ahead n (Err e) whole more h g w = cc
line_ahead n (Ok line) whole more h g w = work_ahead (actions_of line) more (h line refl) (g w)

-- ---- the actions of a text
abbrev AreIn : ℕ → List (List ℕ) → Type 0
AreIn n lines = is_whole bank_code (numbered n lines) ≡ true → IsWorkThenListings (actions_in bank_code (numbered n lines))

other_line : (n b c : ℕ) (bs : List ℕ) (lines : List (List ℕ)) → AreOther b c → AreIn (next n) lines → AreIn n ((b ∷ c ∷ bs) ∷ lines)
other_line n b c bs lines h more =
    line_ahead n (line_at bank_code (b ∷ c ∷ bs)) (is_whole bank_code (numbered (next n) lines)) (actions_in bank_code (numbered (next n) lines)) (λ line e. other_work line (other_read b c bs line h e)) more

-- of a transfer
transfer_work : (ticket : ℕ) (args : Value) (r : Result Line ScriptErr) (line : Line) → IsTransfer args → r ≡ Ok (Line.Request ticket 1 args) → r ≡ Ok line → AreWork (actions_of line)
transfer_work ticket args r line i is e = let same : Line.Request ticket 1 args ≡ line = cc (is, e) in subst (λ l. AreWork (actions_of l)) same ((refl, i), tt)

transfer_line : (n ticket : ℕ) (args : Value) (text : List ℕ) (lines : List (List ℕ)) → line_at bank_code text ≡ Ok (Line.Request ticket 1 args) → IsTransfer args → AreIn (next n) lines → AreIn n (text ∷ lines)
transfer_line n ticket args text lines is i more =
    line_ahead n (line_at bank_code text) (is_whole bank_code (numbered (next n) lines)) (actions_in bank_code (numbered (next n) lines)) (λ line e. transfer_work ticket args (line_at bank_code text) line i is e) more

-- its two accounts differ
accounts_differ : (a b : ℕ) → a % 8 ≡ (a % 8 + 1 + b % 7) % 8 → ⊥
accounts_differ a b e = omega (arith, e)

lines_are : (ticket from to amount : ℕ) (fate rest : List ℕ) (o : IsOther fate) → ticket < 2 ^ 32 → from < 8 → to < 8 → amount < 100
    → lines_of ((transfer_text ticket from to amount ++ fate) ++ rest) ≡ codes "ticket" ∷ request_line ticket from to amount ∷ (o.first ∷ o.second ∷ o.bytes) ∷ lines_of rest
lines_are ticket from to amount fate rest o t f g h =
    let asked = request_line ticket from to amount in
    ap lines_of (append_assoc (transfer_text ticket from to amount) fate rest ∙ two_lines ticket from to amount (fate ++ rest) (omega arith) (omega arith))
    ∙ cut (codes "ticket") (asked ++ 10 ∷ (fate ++ rest)) refl
    ∙ ap (λ ls. codes "ticket" ∷ ls) (cut asked (fate ++ rest) (request_printed ticket from to amount (omega arith) (omega arith)))
    ∙ ap (λ ls. codes "ticket" ∷ asked ∷ ls) (ap lines_of (o.is rest) ∙ cut (o.first ∷ o.second ∷ o.bytes) rest o.shown)

one_transfer : (ticket from to amount line : ℕ) (fate rest : List ℕ) → IsOther fate → ticket < 2 ^ 32 → from < 8 → to < 8 → amount < 100 → (from ≡ to → ⊥) → ((n : ℕ) → AreIn n (lines_of rest))
    → AreIn line (lines_of ((transfer_text ticket from to amount ++ fate) ++ rest))
one_transfer ticket from to amount line fate rest o t f g h apart more =
    let asked = request_line ticket from to amount in
    let fated = (o.first ∷ o.second ∷ o.bytes) ∷ lines_of rest in
    let third = next (next line) in
    let last = other_line third o.first o.second o.bytes (lines_of rest) o.other (more (next third)) in
    let second = transfer_line (next line) ticket (args_of from to amount) asked fated (request_read ticket from to amount t f g h) (args_transfer from to amount apart) last in
    subst (AreIn line) (sym (lines_are ticket from to amount fate rest o t f g h)) (other_line line 116 105 (codes "cket") (asked ∷ fated) (λ e. omega (arith, e), λ e. omega (arith, e), λ e. omega (arith, e), λ e. omega (arith, e), λ e. omega (arith, e)) second)

one_request : (ticket a b c d e line : ℕ) (rest : List ℕ) → 0 < ticket → ticket < 2 ^ 32 → ((n : ℕ) → AreIn n (lines_of rest)) → AreIn line (lines_of (request_text ticket a b c d e ++ rest))
one_request ticket a b c d e line rest some small more =
    one_transfer ticket (a % 8) ((a % 8 + 1 + b % 7) % 8) (c % 100) line (fate_text (1 + d % ticket) e) rest
    (fate_line (1 + d % ticket) e (omega (arith, mod_below d ticket some)) (omega arith)) small (omega arith) (omega arith) (omega arith) (accounts_differ a b) more

all_requests : (n ticket x line : ℕ) → 0 < ticket → ticket + n < 2 ^ 32 → AreIn line (lines_of (requests_from n ticket x ++ codes "settle 4000000000\n"))
all_requests zero ticket x line some small = other_line line 115 101 (codes "ttle 4000000000") [] (λ e. omega (arith, e), λ e. omega (arith, e), λ e. omega (arith, e), λ e. omega (arith, e), λ e. omega (arith, e)) (λ w. ([], refl, tt))
all_requests (suc n) ticket x line some small =
    let rest = requests_from n (ticket + 1) (fifth x) ++ codes "settle 4000000000\n" in
    subst (λ t. AreIn line (lines_of t)) (sym (append_assoc (request_of ticket x) (requests_from n (ticket + 1) (fifth x)) (codes "settle 4000000000\n")))
    (one_request ticket _ _ _ _ _ line rest some (omega arith) (λ m. all_requests n (ticket + 1) (fifth x) m (omega arith) (omega arith)))

-- ---- the source
keeps_every_rule : refusal_in bank_code ≡ None
unfolding through
keeps_every_rule = refl

pub generated_is_the_bank : GeneratedIsTheBank
generated_is_the_bank seed requests =
    ap source_by (text_is_the_bank (requests_from requests 1 seed ++ codes "settle 4000000000\n")) ∙ ap (accepted bank_source) keeps_every_rule

pub generated_is_work : GeneratedIsWork
generated_is_work seed requests few =
    let script = requests_from requests 1 seed ++ codes "settle 4000000000\n" in
    subst (λ t. AreIn 6 (lines_of t)) (sym (drop-appended bank (bank ++ script) script refl)) (all_requests requests 1 seed 6 (omega arith) (omega arith))
