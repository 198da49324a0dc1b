-- Where a plan is refused because the connection ended.
use Rattle.beldi_gateway.proofs.Names.{Absent, Bad, Bool, Endpoint, Err, Framing, Given, Length, List, None, Ok, Option, Plan, PlanAt, PlanLines, PlanOver, PlansHead, Refusal, Result, Scan, Some, bytes_eq, endpoint_at, false, framing_in, if◌then◌else◌, inl, inr, leb-false, length, method_of, nat_le, path_of, refl, size_of, sized, subst, take, true, want_found, with_size, ℕ, ◌<◌, ◌≡◌}

sized_whole : (n : Length) → sized n ≡ Err Refusal.Cut → ⊥
sized_whole Absent e = cc
sized_whole Bad e = cc
sized_whole (Given n) e = given (nat_le n 65536) e
  where
    given : (b : Bool) → ◌≡◌ {A = Result ℕ Refusal} (if b then Ok n else Err Refusal.Size) (Err Refusal.Cut) → ⊥
    given true e = cc
    given false e = cc

coded_whole : (b : Bool) (n : Length) → (if b then Err Refusal.Coding else sized n) ≡ Err Refusal.Cut → ⊥
coded_whole true n e = cc
coded_whole false n e = sized_whole n e

size_whole : (p : Endpoint) (r : Result ℕ Refusal) → (r ≡ Err Refusal.Cut → ⊥) → with_size p r ≡ Err Refusal.Cut → ⊥
size_whole p (Ok n) f e = cc
size_whole p (Err r) f e = f cc

method_whole : (b : Bool) (p : Endpoint) (f : Framing) → (if b then with_size p (size_of f) else Err (Refusal.Method p)) ≡ Err Refusal.Cut → ⊥
method_whole true p f e = size_whole p (size_of f) (coded_whole f.coded f.length) e
method_whole false p f e = cc

found_whole : (o : Option Endpoint) (method : List ℕ) (f : Framing) → want_found o method f ≡ Err Refusal.Cut → ⊥
found_whole None method f e = cc
found_whole (Some p) method f e = method_whole (bytes_eq method (method_of p)) p f e

-- no head is refused because the connection ended
head_whole : (head : List ℕ) → PlansHead head (Err Refusal.Cut) → ⊥
head_whole head (inl p) = found_whole (endpoint_at (path_of p.0.target)) p.0.method (framing_in p.0) p.2
head_whole head (inr p) = cc (p.1)

lines_whole : (few : Bool) (head : List ℕ) → PlanLines few head (Err Refusal.Cut) → ⊥
lines_whole true head p = head_whole head p
lines_whole false head p = cc

end_cut : (m : Bool) (x : List ℕ) → nat_le 16384 (length x) ≡ m → ◌≡◌ {A = Result Plan Refusal} (Err Refusal.Cut) (if m then Err Refusal.HeadSize else Err Refusal.Cut) → length x < 16384
end_cut true x is e = absurd cc
end_cut false x is e = leb-false 16384 (length x) is

over_cut : (o : Bool) (s : Scan) (x : List ℕ) → PlanOver o s x (Err Refusal.Cut) → (o ≡ false) × (length x < 16384)
over_cut true s x p = absurd (lines_whole (nat_le s.lines 65) (take s.size x) p)
over_cut false s x p = (refl, end_cut (nat_le 16384 (length x)) x refl p)

-- a plan is refused as cut only where the head is not over, and more of it may come
pub plan_cut : (s : Scan) (x : List ℕ) (r : Refusal) → PlanAt s x (Err r) → r ≡ Refusal.Cut → (s.over ≡ false) × (length x < 16384)
plan_cut s x r p e = over_cut s.over s x (subst (λ z. PlanAt s x (Err z)) e p)
