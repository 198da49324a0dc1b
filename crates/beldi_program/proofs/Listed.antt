-- What stands below the heading of the tables at the end of a whole session: the items of the book at its end.
use Rattle.std.specs.Prelude.{codes}
use Rattle.std.specs.List.{AllByRecursion}
use Rattle.std.proofs.Common.{drop}
use Rattle.beldi_generator.specs.Summary.{past}
use Rattle.beldi_program.specs.PlainRun.{Moments, alone, entries_in, loses}
use Rattle.beldi_program.proofs.Names.map
use Rattle.beldi_program.proofs.{Asked.IsQuiet, Asked.last_two, Asked.listings, Flat.AreFlat, Skipped.ends_so, Skipped.last_text, Skipped.lists}
use Rattle.beldi_program.proofs.Names.{Action, AreTo, BookIs, Booked, Deployment, Entry, IsReportSo, IsSo, List, Moment, None, Numbered, Option, Some, Reported, Response, Rows, Session, TablesAre, [], actions_in, ap, append-nil, false, last_book, lines_of, refl, responses_in, responses_text, subst, sym, ℕ, ◌++◌, ◌∙◌, ◌∷◌, ◌≡◌}

-- a listing of the tables tells the items of the run of the book at the end, where the table did not fail
abbrev pub TellLast : Deployment → List Entry → List Booked → Option (List ℕ) → Type 0
TellLast d before ys tables = IsReportSo d alone None (last_book before ys) None (TablesAre tables)

abbrev first_or : Response → List Response → Response
first_or y [] = y
first_or y (z ∷ zs) = z

-- .. whether a collector changed a row or not
however : (d : Deployment) (b : List Entry) (changed : Option ℕ) (o : Option (List ℕ)) → IsReportSo d alone None b changed (TablesAre o) → IsReportSo d alone None b None (TablesAre o)
however d b changed None h = h
however d b changed (Some lines) h = h

module _ (d : Deployment) (tables : Option (List ℕ)) (book : List ℕ) where
  -- a listing leaves the book
  same_book : (before : List Entry) (was : Option ℕ) (y : Booked) (r : Response) → Moment d alone None before was y → y.response ≡ r → loses r ≡ false → entries_in r ≡ [] → y.book ≡ before
  same_book before was y r h is kept none = h.grew ∙ ap (λ z. before ++ z) (h.told (ap loses is ∙ kept) ∙ ap entries_in is ∙ none) ∙ append-nil before

  at_end : (y : Booked) (ys : List Booked) (before : List Entry) (was : Option ℕ) → y.response ≡ Reported (TablesAre tables) → responses_in ys ≡ Reported (BookIs book) ∷ [] → Moment d alone None before was y → Moments d alone None y.book y.changed ys → TellLast d before (y ∷ ys) tables
  at_end y [] before was is later h hs = cc
  at_end y (z ∷ []) before was is later h hs =
      let last = ap (first_or z.response) later in
      let same = same_book y.book y.changed z (Reported (BookIs book)) hs.0 last refl refl in
      subst (λ b. IsReportSo d alone None b None (TablesAre tables)) (sym same) (however d y.book y.changed tables (subst (IsSo d alone None y.book y.changed) is h.so))
  at_end y (z ∷ x ∷ zs) before was is later h hs = let more = ap (drop 1) later in cc

  tell_last : (ys : List Booked) (before : List Entry) (was : Option ℕ) (front : List Response) → responses_in ys ≡ front ++ lists tables book → Moments d alone None before was ys → TellLast d before ys tables
  tell_last [] before was [] is h = cc
  tell_last [] before was (x ∷ front) is h = cc
  tell_last (y ∷ ys) before was [] is h = at_end y ys before was (ap (first_or y.response) is) (ap (drop 1) is) h.0 h.1
  tell_last (y ∷ ys) before was (x ∷ front) is h = tell_last ys y.book y.changed front (ap (drop 1) is) h.1

-- a whole session of events, whose text was written: what stands below the headings in it, and that this is so
pub record EndsTold (d : Deployment) (lines : List Numbered) (m n : Rows) (written : List ℕ) (s : Session d (actions_in d lines) [] m n written []) : Type 0 where
  pub tables : Option (List ℕ)
  pub book : List ℕ
  pub totals : past (codes "== tables") (lines_of written) ≡ lines_of (last_text tables book)
  pub tells : m ≡ map.empty → TellLast d [] s.responses tables

pub ends_told : (d : Deployment) (lines : List Numbered) (m n : Rows) (written : List ℕ) (s : Session d (actions_in d lines) [] m n written []) (front : List Action) → actions_in d lines ≡ front ++ listings → AreFlat d → AllByRecursion IsQuiet front → EndsTold d lines m n written s
ends_told d lines m n written s front is names quiet =
    let e = last_two (responses_in s.responses) front (subst (λ z. AreTo (responses_in s.responses) z []) is s.actions_are) in
    let text : written ≡ responses_text d (responses_in s.responses) = sym (append-nil written) ∙ s.text in
    record {
      tables = e.tables;
      book = e.book;
      totals = ap (λ z. past (codes "== tables") (lines_of z)) text ∙ ends_so d (responses_in s.responses) front e names quiet;
      tells = λ none. tell_last d e.tables e.book s.responses [] None e.before e.all (s.plain none).moments;
    }
