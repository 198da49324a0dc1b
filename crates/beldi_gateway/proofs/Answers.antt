-- What the bytes that were gathered come to.
use Rattle.beldi_gateway.proofs.Names.{Bool, Err, Exchanges, FewLines, HeadComes, HeadEnds, List, Ok, Option, Plan, PlanAt, PlanLines, PlanOver, PlansHead, Question, Refusal, Result, Scan, after_head, ap, drop, drop-append-le, false, if◌then◌else◌, inl, inr, le-leb, length, nat_le, path_of, refl, scan_on, span_bytes, start, subst, sym, take, take-append-le, true, with_body, ℕ, ◌++◌, ◌∙◌, ◌≡◌, ◌≤◌}
use Rattle.beldi_gateway.proofs.Scans.{scan_append, over_stays}

-- within 16,384 bytes it is what the end of the head says
within : (funcs : List ℕ → Option ℕ) (x : List ℕ) (s : Scan) (e : Result Question Refusal) → s ≡ scan_on start x → s.size ≤ 16384 → HeadEnds funcs s.over s x e → Exchanges funcs x e
within funcs x s e is small h =
    subst (λ z. HeadEnds funcs (if nat_le z.size 16384 then z.over else false) z x e) is
    (subst (λ b. HeadEnds funcs (if b then s.over else false) s x e) (sym (le-leb s.size 16384 small)) h)

lines_refused : (funcs : List ℕ → Option ℕ) (few : Bool) (head rest : List ℕ) (r : Refusal) → PlanLines few head (Err r) → FewLines funcs few head rest (Err r)
lines_refused funcs true head rest r (inl p) = inl (p.0, p.1, sym (ap (λ z. after_head funcs z (path_of p.0.target) rest) p.2))
lines_refused funcs true head rest r (inr p) = inr (p.0, ap (λ z. Err z) p.1)
lines_refused funcs false head rest r p = cc

end_refused : (m : Bool) (r : Refusal) → ◌≡◌ {A = Result Plan Refusal} (Err r) (if m then Err Refusal.HeadSize else Err Refusal.Cut) → ◌≡◌ {A = Result Question Refusal} (Err r) (if m then Err Refusal.HeadSize else Err Refusal.Cut)
end_refused true r p = cc
end_refused false r p = cc

over_refused : (funcs : List ℕ → Option ℕ) (o : Bool) (s : Scan) (x : List ℕ) (r : Refusal) → PlanOver o s x (Err r) → HeadEnds funcs o s x (Err r)
over_refused funcs true s x r p = lines_refused funcs (nat_le s.lines 65) (take s.size x) (drop s.size x) r p
over_refused funcs false s x r p = end_refused (nat_le 16384 (length x)) r p

pub refused : (funcs : List ℕ → Option ℕ) (s : Scan) (x : List ℕ) (r : Refusal) → s ≡ scan_on start x → s.size ≤ 16384 → PlanAt s x (Err r) → Exchanges funcs x (Err r)
refused funcs s x r is small p = within funcs x s (Err r) is small (over_refused funcs s.over s x r p)

head_planned : (funcs : List ℕ → Option ℕ) (head rest : List ℕ) (p : Plan) → PlansHead head (Ok p) → HeadComes funcs head rest (with_body funcs p.want (path_of (span_bytes head p.target)) rest)
head_planned funcs head rest p h =
    inl (
      h.0,
      h.1,
      ap (λ t. with_body funcs p.want (path_of t) rest) h.3
          ∙ sym (ap (λ z. after_head funcs z (path_of h.0.target) rest) h.4),
    )

lines_planned : (funcs : List ℕ → Option ℕ) (few : Bool) (head rest : List ℕ) (p : Plan) → PlanLines few head (Ok p) → FewLines funcs few head rest (with_body funcs p.want (path_of (span_bytes head p.target)) rest)
lines_planned funcs true head rest p h = head_planned funcs head rest p h
lines_planned funcs false head rest p h = absurd cc

not_planned : (m : Bool) (p : Plan) → ◌≡◌ {A = Result Plan Refusal} (Ok p) (if m then Err Refusal.HeadSize else Err Refusal.Cut) → ⊥
not_planned true p e = cc
not_planned false p e = cc

over_planned : (funcs : List ℕ → Option ℕ) (o : Bool) (s : Scan) (x t : List ℕ) (p : Plan) → s.over ≡ o → s ≡ scan_on start x → s.size ≤ length x → s.size ≤ 16384 → PlanOver o s x (Ok p)
    → Exchanges funcs (x ++ t) (with_body funcs p.want (path_of (span_bytes (take s.size x) p.target)) (drop s.size x ++ t))
over_planned funcs false s x t p over is fits small h = absurd (not_planned (nat_le 16384 (length x)) p h)
over_planned funcs true s x t p over is fits small h =
    let e = with_body funcs p.want (path_of (span_bytes (take s.size x) p.target)) (drop s.size x ++ t) in
    let front : take s.size (x ++ t) ≡ take s.size x = take-append-le s.size x t fits in
    let back : drop s.size (x ++ t) ≡ drop s.size x ++ t = drop-append-le s.size x t fits in
    let same : s ≡ scan_on start (x ++ t) = sym (over_stays s t over) ∙ ap (λ z. scan_on z t) is ∙ scan_append start x t in
    let lines = lines_planned funcs (nat_le s.lines 65) (take s.size x) (drop s.size x ++ t) p h in
    let moved = subst (λ f. FewLines funcs (nat_le s.lines 65) f (drop s.size x ++ t) e) (sym front) lines in
    let whole = subst (λ b. FewLines funcs (nat_le s.lines 65) (take s.size (x ++ t)) b e) (sym back) moved in
    within funcs (x ++ t) s e same small (subst (λ o. HeadEnds funcs o s (x ++ t) e) (sym over) whole)

pub planned : (funcs : List ℕ → Option ℕ) (s : Scan) (x t : List ℕ) (p : Plan) → s ≡ scan_on start x → s.size ≤ length x → s.size ≤ 16384 → PlanAt s x (Ok p)
    → Exchanges funcs (x ++ t) (with_body funcs p.want (path_of (span_bytes (take s.size x) p.target)) (drop s.size x ++ t))
planned funcs s x t p is fits small h = over_planned funcs s.over s x t p refl is fits small h
