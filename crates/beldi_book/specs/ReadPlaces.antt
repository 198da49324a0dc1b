-- The linear order of a book by places: one before each change, and one after all, each with the reads that stand there.
use Rattle.std.specs.Prelude.{ℕ, zero, suc, List, [], ◌∷◌, ◌++◌, map, Option, Some, None}
use Rattle.beldi_book.specs.{declared.entry.Entry.Entry, LinearOrder.version_of}

-- no read stands anywhere yet
abbrev pub empty_places : List Entry → List (List Entry)
empty_places changes = [] ∷ map (λ c. []) changes

-- the entry goes to the end of the place of this number, from 0, or of the last one
abbrev pub put_to : ℕ → Entry → List (List Entry) → List (List Entry)
put_to s e [] = []
put_to s e (p ∷ []) = (p ++ e ∷ []) ∷ []
put_to zero e (p ∷ q ∷ ps) = (p ++ e ∷ []) ∷ q ∷ ps
put_to (suc s) e (p ∷ q ∷ ps) = p ∷ put_to s e (q ∷ ps)

abbrev pub put_by_version : Option ℕ → Entry → List (List Entry) → List (List Entry)
put_by_version None e ps = ps
put_by_version (Some s) e ps = put_to s e ps

-- a read goes to the place behind the changes that it had seen; a change to none
abbrev pub put_in : Entry → List (List Entry) → List (List Entry)
put_in e ps = put_by_version (version_of e) e ps

abbrev pub put_all_in : List (List Entry) → List Entry → List (List Entry)
put_all_in ps [] = ps
put_all_in ps (e ∷ es) = put_all_in (put_in e ps) es

-- the reads of each place, and the change that follows
abbrev pub woven : List Entry → List (List Entry) → List Entry
woven cs [] = []
woven [] (p ∷ ps) = p ++ woven [] ps
woven (c ∷ cs) (p ∷ ps) = p ++ c ∷ woven cs ps
