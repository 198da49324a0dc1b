-- An expression as mathematics: what an `Expr` stands for.
use Rattle.std.specs.Prelude.{◌≡◌, ℕ, ◌+◌, ◌==◌, ℤ, pos, Bool, false, List, [], ◌∷◌, ◌++◌, refl, if◌then◌else◌}
use Rattle.std.specs.Coded.{Coded, code_by, coded×, coded_ℕ, coded_ℤ, coded_bool, coded_list}
use Rattle.std.proofs.Common.{ap, ◌∙◌, append_assoc}
use Rattle.beldi_value.specs.declared.rel.Rel.{Rel, TheVariants.Eq, TheVariants.Ne, TheVariants.Lt, TheVariants.Le, TheVariants.Gt, TheVariants.Ge}
use Rattle.beldi_tree.specs.declared.deployment.Op.{Op, TheVariants.Add, TheVariants.Sub, TheVariants.Join, TheVariants.Mul, TheVariants.Div, TheVariants.Rem}

mutual
  pub data Term : Type 0 where
    int : ℤ → Term
    text : List ℕ → Term
    boolean : Bool → Term
    null : Term
    name : List ℕ → Term
    or : Term → Term → Term
    and : Term → Term → Term
    not : Term → Term
    negate : Term → Term
    compare : Rel → Term → Term → Term
    binary : Op → Term → Term → Term
    field : Term → List ℕ → Term
    element : Term → Term → Term
    list : Terms → Term
    fields : Members → Term
    len : Term → Term
    text_of : Term → Term
    push : Term → Term → Term
    with : Term → Term → Term → Term

  pub data Terms : Type 0 where
    no_items : Terms
    item : Term → Terms → Terms

  -- in the order of the text, where a key may stand twice
  pub data Members : Type 0 where
    no_members : Members
    member : List ℕ → Term → Members → Members

abbrev pub items_of : List Term → Terms
items_of [] = no_items
items_of (t ∷ ts) = item t (items_of ts)

abbrev pub members_of : List (List ℕ × Term) → Members
members_of [] = no_members
members_of (m ∷ ms) = member m.0 m.1 (members_of ms)

-- how large an expression is: above each part of it, with room for the step into the part
abbrev mutual
  pub term_size : Term → ℕ
  term_size (int z) = 1
  term_size (text s) = 1
  term_size (boolean b) = 1
  term_size null = 1
  term_size (name s) = 1
  term_size (or t u) = term_size t + term_size u + 2
  term_size (and t u) = term_size t + term_size u + 2
  term_size (not t) = term_size t + 2
  term_size (negate t) = term_size t + 2
  term_size (compare r t u) = term_size t + term_size u + 2
  term_size (binary o t u) = term_size t + term_size u + 2
  term_size (field t s) = term_size t + 2
  term_size (element t u) = term_size t + term_size u + 2
  term_size (list ts) = items_size ts + 2
  term_size (fields ms) = all_members_size ms + 2
  term_size (len t) = term_size t + 2
  term_size (text_of t) = term_size t + 2
  term_size (push t u) = term_size t + term_size u + 2
  term_size (with t u v) = term_size t + term_size u + term_size v + 2

  pub items_size : Terms → ℕ
  items_size no_items = 0
  items_size (item t ts) = term_size t + items_size ts + 1

  pub all_members_size : Members → ℕ
  all_members_size no_members = 0
  all_members_size (member k t ms) = term_size t + all_members_size ms + 1

abbrev pub terms_size : List Term → ℕ
terms_size ts = items_size (items_of ts)

abbrev pub members_size : List (List ℕ × Term) → ℕ
members_size ms = all_members_size (members_of ms)

-- ---- the code of an expression: it is written in front order, a row for each sign, and read from the end by a stack

abbrev pub Row : Type 0
Row = ℕ × (ℕ × (Bool × (ℤ × List ℕ)))

abbrev pub sign : ℕ → Row
sign n = (n, (0, (false, (pos 0, []))))

abbrev pub word : ℕ → List ℕ → Row
word n s = (n, (0, (false, (pos 0, s))))

abbrev pub op_number : Op → ℕ
op_number Add = 0
op_number Sub = 1
op_number Join = 2
op_number Mul = 3
op_number Div = 4
op_number Rem = 5

abbrev pub op_of : ℕ → Op
op_of n =
    if n == 0 then Add else if n == 1 then Sub else if n == 2 then Join else if n == 3 then Mul else
    if n == 4 then Div else Rem

op_back : (o : Op) → op_of (op_number o) ≡ o
op_back Add = refl
op_back Sub = refl
op_back Join = refl
op_back Mul = refl
op_back Div = refl
op_back Rem = refl

abbrev pub rel_number : Rel → ℕ
rel_number Eq = 0
rel_number Ne = 1
rel_number Lt = 2
rel_number Le = 3
rel_number Gt = 4
rel_number Ge = 5

abbrev pub rel_of : ℕ → Rel
rel_of n =
    if n == 0 then Eq else if n == 1 then Ne else if n == 2 then Lt else if n == 3 then Le else
    if n == 4 then Gt else Ge

pub rel_back : (r : Rel) → rel_of (rel_number r) ≡ r
rel_back Eq = refl
rel_back Ne = refl
rel_back Lt = refl
rel_back Le = refl
rel_back Gt = refl
rel_back Ge = refl

pub data Part : Type 0 where
  one : Term → Part
  those : Terms → Part
  pairs : Members → Part

abbrev mutual
  pub write : Term → List Row
  write (int z) = (0, (0, (false, (z, [])))) ∷ []
  write (text s) = word 1 s ∷ []
  write (boolean b) = (2, (0, (b, (pos 0, [])))) ∷ []
  write null = sign 3 ∷ []
  write (name s) = word 4 s ∷ []
  write (not t) = sign 5 ∷ write t
  write (or t u) = sign 20 ∷ (write t ++ write u)
  write (and t u) = sign 21 ∷ (write t ++ write u)
  write (negate t) = sign 6 ∷ write t
  write (compare r t u) = (22, (rel_number r, (false, (pos 0, [])))) ∷ (write t ++ write u)
  write (binary o t u) = (7, (op_number o, (false, (pos 0, [])))) ∷ (write t ++ write u)
  write (field t s) = word 8 s ∷ write t
  write (element t u) = sign 9 ∷ (write t ++ write u)
  write (list ts) = sign 10 ∷ write_items ts
  write (fields ms) = sign 11 ∷ write_members ms
  write (len t) = sign 12 ∷ write t
  write (text_of t) = sign 13 ∷ write t
  write (push t u) = sign 14 ∷ (write t ++ write u)
  write (with t u v) = sign 15 ∷ (write t ++ (write u ++ write v))

  pub write_items : Terms → List Row
  write_items no_items = sign 16 ∷ []
  write_items (item t ts) = sign 17 ∷ (write t ++ write_items ts)

  pub write_members : Members → List Row
  write_members no_members = sign 18 ∷ []
  write_members (member k t ms) = word 19 k ∷ (write t ++ write_members ms)

abbrev pub on_one : (Term → Term) → List Part → List Part
on_one f (one t ∷ ps) = one (f t) ∷ ps
on_one f ps = ps

abbrev pub on_two : (Term → Term → Term) → List Part → List Part
on_two f (one t ∷ one u ∷ ps) = one (f t u) ∷ ps
on_two f ps = ps

abbrev pub on_three : (Term → Term → Term → Term) → List Part → List Part
on_three f (one t ∷ one u ∷ one v ∷ ps) = one (f t u v) ∷ ps
on_three f ps = ps

abbrev pub to_list : List Part → List Part
to_list (those ts ∷ ps) = one (list ts) ∷ ps
to_list ps = ps

abbrev pub to_fields : List Part → List Part
to_fields (pairs ms ∷ ps) = one (fields ms) ∷ ps
to_fields ps = ps

abbrev pub to_item : List Part → List Part
to_item (one t ∷ those ts ∷ ps) = those (item t ts) ∷ ps
to_item ps = ps

abbrev pub to_member : List ℕ → List Part → List Part
to_member k (one t ∷ pairs ms ∷ ps) = pairs (member k t ms) ∷ ps
to_member k ps = ps

abbrev pub step : Row → List Part → List Part
step r ps =
    if r.0 == 0 then one (int r.1.1.1.0) ∷ ps else
    if r.0 == 1 then one (text r.1.1.1.1) ∷ ps else
    if r.0 == 2 then one (boolean r.1.1.0) ∷ ps else
    if r.0 == 3 then one null ∷ ps else
    if r.0 == 4 then one (name r.1.1.1.1) ∷ ps else
    if r.0 == 5 then on_one not ps else
    if r.0 == 6 then on_one negate ps else
    if r.0 == 7 then on_two (binary (op_of r.1.0)) ps else
    if r.0 == 8 then on_one (λ t. field t r.1.1.1.1) ps else
    if r.0 == 9 then on_two element ps else
    if r.0 == 10 then to_list ps else
    if r.0 == 11 then to_fields ps else
    if r.0 == 12 then on_one len ps else
    if r.0 == 13 then on_one text_of ps else
    if r.0 == 14 then on_two push ps else
    if r.0 == 15 then on_three with ps else
    if r.0 == 16 then those no_items ∷ ps else
    if r.0 == 17 then to_item ps else
    if r.0 == 18 then pairs no_members ∷ ps else
    if r.0 == 19 then to_member r.1.1.1.1 ps else
    if r.0 == 20 then on_two or ps else
    if r.0 == 21 then on_two and ps else
    on_two (compare (rel_of r.1.0)) ps

abbrev pub read : List Row → List Part
read [] = []
read (r ∷ rs) = step r (read rs)

abbrev pub top : List Part → Term
top (one t ∷ ps) = t
top ps = null

-- two parts, one after another, where each is read back
two : (t u : Term) (rs : List Row) → read (write t ++ (write u ++ rs)) ≡ one t ∷ read (write u ++ rs) → read (write u ++ rs) ≡ one u ∷ read rs → read ((write t ++ write u) ++ rs) ≡ one t ∷ one u ∷ read rs
two t u rs p q = ap read (append_assoc (write t) (write u) rs) ∙ p ∙ ap (λ ps. one t ∷ ps) q

mutual
  back : (t : Term) (rs : List Row) → read (write t ++ rs) ≡ one t ∷ read rs
  back (int z) rs = refl
  back (text s) rs = refl
  back (boolean b) rs = refl
  back null rs = refl
  back (name s) rs = refl
  back (or t u) rs = ap (on_two or) (two t u rs (back t (write u ++ rs)) (back u rs))
  back (and t u) rs = ap (on_two and) (two t u rs (back t (write u ++ rs)) (back u rs))
  back (not t) rs = ap (on_one not) (back t rs)
  back (negate t) rs = ap (on_one negate) (back t rs)
  back (compare r t u) rs = ap (on_two (compare (rel_of (rel_number r)))) (two t u rs (back t (write u ++ rs)) (back u rs)) ∙ ap (λ p. one (compare p t u) ∷ read rs) (rel_back r)
  back (binary o t u) rs = ap (on_two (binary (op_of (op_number o)))) (two t u rs (back t (write u ++ rs)) (back u rs)) ∙ ap (λ p. one (binary p t u) ∷ read rs) (op_back o)
  back (field t s) rs = ap (on_one (λ v. field v s)) (back t rs)
  back (element t u) rs = ap (on_two element) (two t u rs (back t (write u ++ rs)) (back u rs))
  back (list ts) rs = ap to_list (back_items ts rs)
  back (fields ms) rs = ap to_fields (back_members ms rs)
  back (len t) rs = ap (on_one len) (back t rs)
  back (text_of t) rs = ap (on_one text_of) (back t rs)
  back (push t u) rs = ap (on_two push) (two t u rs (back t (write u ++ rs)) (back u rs))
  back (with t u v) rs =
      ap (λ qs. on_three with (read qs)) (append_assoc (write t) (write u ++ write v) rs)
      ∙ ap (on_three with) (back t ((write u ++ write v) ++ rs) ∙ ap (λ ps. one t ∷ ps) (two u v rs (back u (write v ++ rs)) (back v rs)))

  back_items : (ts : Terms) (rs : List Row) → read (write_items ts ++ rs) ≡ those ts ∷ read rs
  back_items no_items rs = refl
  back_items (item t ts) rs =
      ap (λ qs. to_item (read qs)) (append_assoc (write t) (write_items ts) rs)
      ∙ ap to_item (back t (write_items ts ++ rs) ∙ ap (λ ps. one t ∷ ps) (back_items ts rs))

  back_members : (ms : Members) (rs : List Row) → read (write_members ms ++ rs) ≡ pairs ms ∷ read rs
  back_members no_members rs = refl
  back_members (member k t ms) rs =
      ap (λ qs. to_member k (read qs)) (append_assoc (write t) (write_members ms) rs)
      ∙ ap (to_member k) (back t (write_members ms ++ rs) ∙ ap (λ ps. one t ∷ ps) (back_members ms rs))

pub again : (t : Term) → top (read (write t ++ [])) ≡ t
again t = ap top (back t [])

abbrev pub coded_term : Coded Term
coded_term = code_by (List Row) (coded_list (coded× coded_ℕ (coded× coded_ℕ (coded× coded_bool (coded× coded_ℤ (coded_list coded_ℕ)))))) (λ t. write t ++ []) (λ rs. top (read rs)) again

abbrev pub coded_terms : Coded (List Term)
coded_terms = coded_list coded_term

abbrev pub coded_members : Coded (List (List ℕ × Term))
coded_members = coded_list (coded× (coded_list coded_ℕ) coded_term)
