-- The calls that lead to who is visited, and what is closed of their callees.
use Rattle.beldi_txn.proofs.Names.{AreClosed, AreFit, AreHops, AtEnd, Called, IntentId, IsCall, IsCallPath, Levels, List, Member, None, Option, Row, Rows, Some, EndState, [], ap, arith, back_from, call_key, callee_id, callee_of, child_of, false, front_of, func_called, has_callees, if◌then◌else◌, is_owner, is_some, last_of, length, ltb-true, member_at, most, option_map, option_to_list, refl, slice_get, split_front, split_last, subst, suc, sym, true, zero, ℕ, ◌++◌, ◌-◌, ◌<◌, ◌∙◌, ◌∷◌, ◌≡◌, ◌≤◌}
use Rattle.beldi_txn.proofs.Names.map

-- ---- lists of calls
pub record EndsIn (cs : List Called) : Type 0 where
  pub front : List Called
  pub last : Called
  pub parts : cs ≡ front ++ last ∷ []

pub ends_in : (cs : List Called) → is_owner cs ≡ false → EndsIn cs
ends_in [] h = cc
ends_in (c ∷ []) h = record { front = []; last = c; parts = refl }
ends_in (c ∷ d ∷ ds) h = let e = ends_in (d ∷ ds) refl in record { front = c ∷ e.front; last = e.last; parts = ap (λ xs. c ∷ xs) e.parts }

pub member_more : (p : Member) (cs : List Called) (c : Called) → member_at p (cs ++ c ∷ []) ≡ callee_of (member_at p cs) c
member_more p [] c = refl
member_more p (d ∷ ds) c = member_more (callee_of p d) ds c

-- what a pop leaves and gives, where it gives one unless there is none
pub popped : (old new : List Called) (r : Option Called) → old ≡ new ++ option_to_list r → (0 < length old → is_some r ≡ true) → (new ≡ front_of (split_last old)) × (r ≡ last_of (split_last old))
popped [] [] None parts some = (refl, refl)
popped (c ∷ cs) new None parts some = let clash = some (omega arith) in cc
popped [] (d ∷ ds) None parts some = cc
popped old new (Some c) parts some = let s = ap split_last parts ∙ split_front new c in (sym (ap front_of s), sym (ap last_of s))

-- the last one in a slice
at_seam : (front : List Called) (c : Called) (i : ℕ) → suc i ≡ length (front ++ c ∷ []) → slice_get (front ++ c ∷ []) i ≡ Some c
at_seam [] c i e = ap (slice_get (c ∷ [])) (e_is i e)
  where
    e_is : (i : ℕ) → suc i ≡ 1 → i ≡ 0
    e_is i e = omega (arith, e)
at_seam (d ∷ ds) c zero e = absurd (some ds (omega (arith, e)))
  where
    some : (ds : List Called) → length (ds ++ c ∷ []) ≡ 0 → ⊥
    some [] h = omega (arith, h)
    some (b ∷ bs) h = omega (arith, h)
at_seam (d ∷ ds) c (suc i) e = at_seam ds c i (omega (arith, e))

pub last_is : (cs : List Called) → slice_get cs (length cs - 1) ≡ last_of (split_last cs)
last_is [] = refl
last_is (c ∷ cs) =
    let e = ends_in (c ∷ cs) refl in
    subst (λ (ds : List Called). slice_get ds (length ds - 1) ≡ last_of (split_last ds)) (sym e.parts)
    (at_seam e.front e.last (length (e.front ++ e.last ∷ []) - 1) (less_one e.front e.last) ∙ sym (ap last_of (split_front e.front e.last)))
  where
    less_one : (front : List Called) (c : Called) → suc (length (front ++ c ∷ []) - 1) ≡ length (front ++ c ∷ [])
    less_one [] c = refl
    less_one (d ∷ ds) c = omega arith

-- the function of who calls lead to is that of the last one
abbrev pub func_of : ℕ → Option Called → ℕ
func_of f None = f
func_of f (Some c) = c.func

pub func_is : (p : Member) (cs : List Called) → (member_at p cs).1 ≡ func_of p.1 (last_of (split_last cs))
func_is p [] = refl
func_is p (c ∷ []) = refl
func_is p (c ∷ d ∷ ds) = func_is (callee_of p c) (d ∷ ds)

-- where there is no last one, there is none
pub back_none : (v : EndState) (cs : List Called) → cs ≡ front_of (split_last v.path) → last_of (split_last v.path) ≡ None → record v { path = cs } ≡ back_from v (split_last v.path)
back_none v cs left last = by v.path left last
  where
    by : (ds : List Called) → cs ≡ front_of (split_last ds) → last_of (split_last ds) ≡ None → record v { path = cs } ≡ back_from (record v { path = ds }) (split_last ds)
    by [] left last = ap (λ (es : List Called). record v { path = es }) left
    by (c ∷ ds) left last = cc

-- ---- calls that are there
pub path_more : (m : Rows) (p : Member) (cs : List Called) (c : Called) → IsCallPath m p cs → IsCall m (member_at p cs) c → IsCallPath m p (cs ++ c ∷ [])
path_more m p [] c w k = (k, tt)
path_more m p (d ∷ ds) c w k = (w.0, path_more m (callee_of p d) ds c w.1 k)

pub path_front : (m : Rows) (p : Member) (cs : List Called) (c : Called) → IsCallPath m p (cs ++ c ∷ []) → IsCallPath m p cs
path_front m p [] c w = tt
path_front m p (d ∷ ds) c w = (w.0, path_front m (callee_of p d) ds c w.1)

pub path_last : (m : Rows) (p : Member) (cs : List Called) (c : Called) → IsCallPath m p (cs ++ c ∷ []) → IsCall m (member_at p cs) c
path_last m p [] c w = w.0
path_last m p (d ∷ ds) c w = path_last m (callee_of p d) ds c w.1

-- ---- levels
pub levels_top : (m : Rows) (p : Member) (At : ℕ → Type 0) (cs : List Called) (Past : ℕ → Type 0) → Levels m p At cs Past → AreClosed m (member_at p cs) (λ n. AtEnd At cs n × Past n)
levels_top m p At [] Past l = l
levels_top m p At (c ∷ []) Past l = l.1
levels_top m p At (c ∷ d ∷ ds) Past l = levels_top m (callee_of p c) (λ n. Unit {0}) (d ∷ ds) Past l.1

pub levels_with : (m : Rows) (p : Member) (At : ℕ → Type 0) (cs : List Called) (Past Now : ℕ → Type 0) → Levels m p At cs Past → AreClosed m (member_at p cs) (λ n. AtEnd At cs n × Now n) → Levels m p At cs Now
levels_with m p At [] Past Now l h = h
levels_with m p At (c ∷ []) Past Now l h = (l.0, h)
levels_with m p At (c ∷ d ∷ ds) Past Now l h = (l.0, levels_with m (callee_of p c) (λ n. Unit {0}) (d ∷ ds) Past Now l.1 h)

pub levels_pushed : (m : Rows) (p : Member) (At : ℕ → Type 0) (cs : List Called) (c : Called) (Past Now : ℕ → Type 0) → Levels m p At cs Past → AreClosed m (member_at p cs) (λ n. AtEnd At cs n × (n < c.step))
    → AreClosed m (callee_of (member_at p cs) c) (λ n. Unit {0} × Now n) → Levels m p At (cs ++ c ∷ []) Now
levels_pushed m p At [] c Past Now l h g = (h, g)
levels_pushed m p At (d ∷ []) c Past Now l h g = (l.0, (h, g))
levels_pushed m p At (d ∷ e ∷ es) c Past Now l h g = (l.0, levels_pushed m (callee_of p d) (λ n. Unit {0}) (e ∷ es) c Past Now l.1 h g)

pub levels_last : (m : Rows) (p : Member) (At : ℕ → Type 0) (cs : List Called) (c : Called) (Past : ℕ → Type 0) → Levels m p At (cs ++ c ∷ []) Past → AreClosed m (member_at p cs) (λ n. AtEnd At cs n × (n < c.step))
levels_last m p At [] c Past l = l.0
levels_last m p At (d ∷ []) c Past l = l.1.0
levels_last m p At (d ∷ e ∷ es) c Past l = levels_last m (callee_of p d) (λ n. Unit {0}) (e ∷ es) c Past l.1

pub levels_popped : (m : Rows) (p : Member) (At : ℕ → Type 0) (cs : List Called) (c : Called) (Past Now : ℕ → Type 0) → Levels m p At (cs ++ c ∷ []) Past → AreClosed m (member_at p cs) (λ n. AtEnd At cs n × Now n) → Levels m p At cs Now
levels_popped m p At [] c Past Now l h = h
levels_popped m p At (d ∷ []) c Past Now l h = (l.0, h)
levels_popped m p At (d ∷ e ∷ es) c Past Now l h = (l.0, levels_popped m (callee_of p d) (λ n. Unit {0}) (e ∷ es) c Past Now l.1 h)

-- ---- ids of participants
hops_more : (room : ℕ) (hs : List ℕ) (s : ℕ) → AreHops room hs → length hs < room → s ≤ most → AreHops room (hs ++ s ∷ [])
hops_more zero hs s a less small = absurd (omega (arith, less))
hops_more (suc room) [] s a less small = (small, tt)
hops_more (suc room) (h ∷ hs) s a less small = (a.0, hops_more room hs s a.1 (omega (arith, less)) small)

-- the id of a callee, where the caller has callees
callee_is : (id : IntentId) (s : ℕ) → has_callees id ≡ true → callee_id id s ≡ child_of id s
callee_is id s h = ap (λ b. if b then child_of id s else id) h

-- a participant's id has its width, where the rows have
pub member_fit : (m : Rows) (p : Member) (cs : List Called) → AreFit m → 1 ≤ p.0.ticket → AreHops 63 p.0.hops → IsCallPath m p cs → (1 ≤ (member_at p cs).0.ticket) × AreHops 63 (member_at p cs).0.hops
member_fit m p [] fit some hops w = (some, hops)
member_fit m p (c ∷ cs) fit some hops w =
    let same = callee_is p.0 c.step w.0.0 in
    member_fit m (callee_of p c) cs fit (subst (λ (i : IntentId). 1 ≤ i.ticket) (sym same) some) (subst (λ (i : IntentId). AreHops 63 i.hops) (sym same) more) w.1
  where
    small : (o : Option Row) → map.get m (call_key p.1 p.0 c.step) ≡ o → option_map func_called o ≡ Some c.func → c.step ≤ most
    small None is there = cc
    small (Some r) is there = (fit (call_key p.1 p.0 c.step) r is).1

    more : AreHops 63 (p.0.hops ++ c.step ∷ [])
    more = hops_more 63 p.0.hops c.step hops (ltb-true (length p.0.hops) 63 w.0.0) (small (map.get m (call_key p.1 p.0 c.step)) refl w.0.1)
