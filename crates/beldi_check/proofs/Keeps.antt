-- A deployment is accepted exactly where it keeps every rule, at each function, table and statement.
use Rattle.beldi_check.proofs.Names.{AcceptsExactly, Bool, Call, CallCycle, Duplicate, Func, KeepsRules, List, None, Option, Rule, Some, Spot, Start, TableHead, TooMany, [], ap, append-nil, append_assoc, arith, blocks, double_name, double_table, false, first_broken, first_cycle, first_from, first_offence, first_site, first_statement, has_function, has_table, if◌then◌else◌, is_name, length, line_at, list_any, lt-ltb, named, nat_lt, option_map, option_or, past_most, reaches, refl, rules_of_places, rules_of_transactions, sites_of, slice_get, slice_get_past, subst, suc, sym, take, true, why_of, zero, ℕ, ◌++◌, ◌+◌, ◌<◌, ◌||◌, ◌∙◌, ◌∷◌, ◌≡◌, ◌≤◌}
use Rattle.beldi_check.proofs.Firsts.{neither_left, neither_right, kept_if, few}

-- ---- parts of what does not hold

if_some : {A : Type 0} (b : Bool) (x : A) (o : Option A) → (if b then Some x else o) ≡ None → (b ≡ false) × (o ≡ None)
if_some true x o e = absurd (cc)
if_some false x o e = (refl, e)

map_none : {A B : Type 0} (f : A → B) (o : Option A) → option_map f o ≡ None → o ≡ None
map_none f None e = refl
map_none f (Some x) e = absurd (cc)

or_left : (a b : Bool) → (a || b) ≡ false → a ≡ false
or_left true b e = absurd (cc)
or_left false b e = refl

or_right : (a b : Bool) → (a || b) ≡ false → b ≡ false
or_right true b e = absurd (cc)
or_right false b e = e

-- ---- lists

none_passes : {A : Type 0} (p : A → Bool) (xs : List A) (i : ℕ) (x : A) → list_any p xs ≡ false → slice_get xs i ≡ Some x → p x ≡ false
none_passes p [] i x h e = absurd (cc)
none_passes p (y ∷ xs) zero x h e = let same : y ≡ x = cc in subst (λ z. p z ≡ false) same (or_left (p y) (list_any p xs) h)
none_passes p (y ∷ xs) (suc i) x h e = none_passes p xs i x (or_right (p y) (list_any p xs) h) e

taken : {A : Type 0} (xs : List A) (i j : ℕ) → i < j → slice_get (take j xs) i ≡ slice_get xs i
taken [] i zero l = absurd (omega arith)
taken [] i (suc j) l = refl
taken (x ∷ xs) i zero l = absurd (omega arith)
taken (x ∷ xs) zero (suc j) l = refl
taken (x ∷ xs) (suc i) (suc j) l = taken xs i j (omega arith)

none_past : {A : Type 0} (xs : List A) (n : ℕ) → slice_get xs n ≡ None → length xs ≤ n
none_past [] n e = omega arith
none_past (x ∷ xs) zero e = absurd (cc)
none_past (x ∷ xs) (suc n) e = omega (arith, none_past xs n e)

-- ---- names

new_table : (before ts : List TableHead) (j : ℕ) (t : TableHead) → double_table before ts ≡ None → slice_get ts j ≡ Some t → has_table (before ++ take j ts) t.name ≡ false
new_table before [] j t e at = absurd (cc)
new_table before (u ∷ ts) zero t e at =
    let same : u ≡ t = cc in
    subst (λ v. has_table (before ++ []) v.name ≡ false) same (subst (λ xs. has_table xs u.name ≡ false) (sym (append-nil before)) (if_some (has_table before u.name) _ _ e).0)
new_table before (u ∷ ts) (suc j) t e at =
    subst (λ xs. has_table xs t.name ≡ false) (append_assoc before (u ∷ []) (take j ts)) (new_table (before ++ u ∷ []) ts j t (if_some (has_table before u.name) _ _ e).1 at)

tables_apart : (ts : List TableHead) (i j : ℕ) (s t : TableHead) → double_table [] ts ≡ None → i < j → slice_get ts i ≡ Some s → slice_get ts j ≡ Some t → is_name s.name t.name ≡ false
tables_apart ts i j s t e l p q = none_passes (λ u. is_name u.name t.name) (take j ts) i s (new_table [] ts j t e q) (taken ts i j l ∙ p)

new_function : (before fs : List Func) (j : ℕ) (f : Func) → double_name before fs ≡ None → slice_get fs j ≡ Some f → has_function (before ++ take j fs) f.name ≡ false
new_function before [] j f e at = absurd (cc)
new_function before (g ∷ fs) zero f e at =
    let same : g ≡ f = cc in
    subst (λ v. has_function (before ++ []) v.name ≡ false) same (subst (λ xs. has_function xs g.name ≡ false) (sym (append-nil before)) (if_some (has_function before g.name) _ _ e).0)
new_function before (g ∷ fs) (suc j) f e at =
    subst (λ xs. has_function xs f.name ≡ false) (append_assoc before (g ∷ []) (take j fs)) (new_function (before ++ g ∷ []) fs j f (neither_right (double_table [] g.tables) _ (if_some (has_function before g.name) _ _ e).1) at)

functions_apart : (fs : List Func) (i j : ℕ) (f g : Func) → double_name [] fs ≡ None → i < j → slice_get fs i ≡ Some f → slice_get fs j ≡ Some g → is_name f.name g.name ≡ false
functions_apart fs i j f g e l p q = none_passes (λ h. is_name h.name g.name) (take j fs) i f (new_function [] fs j g e q) (taken fs i j l ∙ p)

tables_of : (before fs : List Func) (n : ℕ) (f : Func) → double_name before fs ≡ None → slice_get fs n ≡ Some f → double_table [] f.tables ≡ None
tables_of before [] n f e at = absurd (cc)
tables_of before (g ∷ fs) zero f e at =
    let same : g ≡ f = cc in
    subst (λ h. double_table [] h.tables ≡ None) same (neither_left (double_table [] g.tables) _ (if_some (has_function before g.name) _ _ e).1)
tables_of before (g ∷ fs) (suc n) f e at = tables_of (before ++ g ∷ []) fs n f (neither_right (double_table [] g.tables) _ (if_some (has_function before g.name) _ _ e).1) at

-- ---- numbers

few_tables_of : (m : ℕ) (fs : List Func) (n : ℕ) (f : Func) → past_most m fs ≡ None → slice_get fs n ≡ Some f → length f.tables ≤ 64
few_tables_of m [] n f e at = absurd (cc)
few_tables_of m (g ∷ fs) zero f e at =
    let same : g ≡ f = cc in
    subst (λ h. length h.tables ≤ 64) same (none_past g.tables 64 (map_none (λ t. (t.line, TooMany)) (slice_get g.tables 64) (neither_left _ (past_most (m + 1) fs) (kept_if (nat_lt m 64) _ _ e).1)))
few_tables_of m (g ∷ fs) (suc n) f e at = few_tables_of (m + 1) fs n f (neither_right (option_map (λ t. (t.line, TooMany)) (slice_get g.tables 64)) _ (kept_if (nat_lt m 64) _ _ e).1) at

-- ---- statements

site_keeps : (r : Rule) (fs : List Func) (f : Func) (w : Bool) (ss : List Spot) (k : ℕ) (s : Spot) → first_site r fs f w ss ≡ None → slice_get ss k ≡ Some s → named r fs f w s ≡ None
site_keeps r fs f w [] k s e at = absurd (cc)
site_keeps r fs f w (u ∷ ss) zero s e at =
    let same : u ≡ s = cc in
    subst (λ v. named r fs f w v ≡ None) same (map_none (λ n. (line_at u.1, why_of r n)) (named r fs f w u) (neither_left _ (first_site r fs f w ss) e))
site_keeps r fs f w (u ∷ ss) (suc k) s e at = site_keeps r fs f w ss k s (neither_right (option_map (λ n. (line_at u.1, why_of r n)) (named r fs f w u)) _ e) at

function_keeps : (r : Rule) (fs gs : List Func) (m n k : ℕ) (f : Func) → first_from r fs m gs ≡ None → slice_get gs k ≡ Some f → n ≡ m + k → first_site r fs f (reaches Call fs (blocks fs) n) (sites_of f.body) ≡ None
function_keeps r fs [] m n k f e at is = absurd (cc)
function_keeps r fs (g ∷ gs) m n zero f e at is =
    let same : g ≡ f = cc in
    let here : m ≡ n = omega arith in
    subst (λ i. first_site r fs f (reaches Call fs (blocks fs) i) (sites_of f.body) ≡ None) here
    (subst (λ h. first_site r fs h (reaches Call fs (blocks fs) m) (sites_of h.body) ≡ None) same (neither_left _ (first_from r fs (m + 1) gs) e))
function_keeps r fs (g ∷ gs) m n (suc k) f e at is = function_keeps r fs gs (m + 1) n k f (neither_right (first_site r fs g (reaches Call fs (blocks fs) m) (sites_of g.body)) _ e) at (omega arith)

rule_keeps : (fs : List Func) → first_broken fs rules_of_places ≡ None → first_broken fs rules_of_transactions ≡ None → (r : Rule) → first_statement r fs ≡ None
rule_keeps fs p q Rule.UnknownFunction = neither_left _ (first_broken fs (Rule.UnknownTable ∷ Rule.BreakOutside ∷ Rule.NestedTx ∷ Rule.LeavesTx ∷ [])) p
rule_keeps fs p q Rule.UnknownTable = neither_left _ (first_broken fs (Rule.BreakOutside ∷ Rule.NestedTx ∷ Rule.LeavesTx ∷ [])) (neither_right (first_statement Rule.UnknownFunction fs) _ p)
rule_keeps fs p q Rule.BreakOutside = neither_left _ (first_broken fs (Rule.NestedTx ∷ Rule.LeavesTx ∷ [])) (neither_right (first_statement Rule.UnknownTable fs) _ (neither_right (first_statement Rule.UnknownFunction fs) _ p))
rule_keeps fs p q Rule.NestedTx = neither_left _ (first_broken fs (Rule.LeavesTx ∷ [])) (neither_right (first_statement Rule.BreakOutside fs) _ (neither_right (first_statement Rule.UnknownTable fs) _ (neither_right (first_statement Rule.UnknownFunction fs) _ p)))
rule_keeps fs p q Rule.LeavesTx = neither_left _ None (neither_right (first_statement Rule.NestedTx fs) _ (neither_right (first_statement Rule.BreakOutside fs) _ (neither_right (first_statement Rule.UnknownTable fs) _ (neither_right (first_statement Rule.UnknownFunction fs) _ p))))
rule_keeps fs p q Rule.AsyncInTx = neither_left _ (first_broken fs (Rule.LockInTx ∷ [])) q
rule_keeps fs p q Rule.LockInTx = neither_left _ None (neither_right (first_statement Rule.AsyncInTx fs) _ q)

-- ---- cycles

no_cycle_at : (fs gs : List Func) (m n k : ℕ) → first_cycle fs m gs ≡ None → k < length gs → n ≡ m + k → reaches Start fs n n ≡ false
no_cycle_at fs [] m n k e l is = absurd (omega arith)
no_cycle_at fs (g ∷ gs) m n zero e l is =
    let here : m ≡ n = omega arith in
    subst (λ i. reaches Start fs i i ≡ false) here (if_some (reaches Start fs m m) _ _ e).0
no_cycle_at fs (g ∷ gs) m n (suc k) e l is = no_cycle_at fs gs (m + 1) n k (if_some (reaches Start fs m m) _ _ e).1 (omega arith) (omega arith)

keeps : (fs : List Func) → first_offence fs ≡ None → KeepsRules fs
keeps fs e =
    let names = neither_left (double_name [] fs) _ e in
    let past = neither_right (double_name [] fs) _ e in
    let most = neither_left (past_most 0 fs) _ past in
    let places = neither_right (past_most 0 fs) _ past in
    let first = neither_left (first_broken fs rules_of_places) _ places in
    let cycles = neither_right (first_broken fs rules_of_places) _ places in
    let transactions = neither_right (first_cycle fs 0 fs) _ cycles in
    record {
      names = λ i j f g l p q. functions_apart fs i j f g names l p q;
      tables = λ n i j f s t at l p q. tables_apart f.tables i j s t (tables_of [] fs n f names at) l p q;
      few = few fs most;
      few_tables = λ n f at. few_tables_of 0 fs n f most at;
      statements = λ r n k f s at is. site_keeps r fs f (reaches Call fs (blocks fs) n) (sites_of f.body) k s (function_keeps r fs fs 0 n n f (rule_keeps fs first transactions r) at (omega arith)) is;
      acyclic = λ n l. no_cycle_at fs fs 0 n n (neither_left (first_cycle fs 0 fs) _ cycles) l (omega arith);
    }

-- ---- the way back

neither : (a b : Bool) → a ≡ false → b ≡ false → (a || b) ≡ false
neither true b e f = absurd (cc)
neither false b e f = f

neither_there : {A : Type 0} (o p : Option A) → o ≡ None → p ≡ None → option_or o p ≡ None
neither_there None p e f = f
neither_there (Some x) p e f = absurd (cc)

not_if : {A : Type 0} (b : Bool) (x : A) (o : Option A) → b ≡ false → o ≡ None → (if b then Some x else o) ≡ None
not_if true x o e f = absurd (cc)
not_if false x o e f = f

kept_where : {A : Type 0} (b : Bool) (o : Option A) (x : A) → b ≡ true → o ≡ None → (if b then o else Some x) ≡ None
kept_where true o x e f = f
kept_where false o x e f = absurd (cc)

none_of_each : {A : Type 0} (p : A → Bool) (xs : List A) → ((i : ℕ) (x : A) → slice_get xs i ≡ Some x → p x ≡ false) → list_any p xs ≡ false
none_of_each p [] h = refl
none_of_each p (x ∷ xs) h = neither (p x) (list_any p xs) (h 0 x refl) (none_of_each p xs (λ i y at. h (suc i) y at))

within_taken : {A : Type 0} (xs : List A) (i j : ℕ) (x : A) → slice_get (take j xs) i ≡ Some x → (i < j) × (slice_get xs i ≡ Some x)
within_taken [] i zero x e = absurd (cc)
within_taken [] i (suc j) x e = absurd (cc)
within_taken (y ∷ xs) i zero x e = absurd (cc)
within_taken (y ∷ xs) zero (suc j) x e = (omega arith, e)
within_taken (y ∷ xs) (suc i) (suc j) x e = let r = within_taken xs i j x e in (omega (arith, r.0), r.1)

no_double_table : (before ts : List TableHead) → ((j : ℕ) (t : TableHead) → slice_get ts j ≡ Some t → has_table (before ++ take j ts) t.name ≡ false) → double_table before ts ≡ None
no_double_table before [] h = refl
no_double_table before (u ∷ ts) h =
    not_if (has_table before u.name) (u.line, Duplicate u.name) (double_table (before ++ u ∷ []) ts)
    (subst (λ xs. has_table xs u.name ≡ false) (append-nil before) (h 0 u refl))
    (no_double_table (before ++ u ∷ []) ts (λ j t at. subst (λ xs. has_table xs t.name ≡ false) (sym (append_assoc before (u ∷ []) (take j ts))) (h (suc j) t at)))

no_double_name : (before fs : List Func) → ((j : ℕ) (f : Func) → slice_get fs j ≡ Some f → has_function (before ++ take j fs) f.name ≡ false) → ((j : ℕ) (f : Func) → slice_get fs j ≡ Some f → double_table [] f.tables ≡ None) → double_name before fs ≡ None
no_double_name before [] h t = refl
no_double_name before (g ∷ fs) h t =
    not_if (has_function before g.name) (g.line, Duplicate g.name) (option_or (double_table [] g.tables) (double_name (before ++ g ∷ []) fs))
    (subst (λ xs. has_function xs g.name ≡ false) (append-nil before) (h 0 g refl))
    (neither_there (double_table [] g.tables) (double_name (before ++ g ∷ []) fs) (t 0 g refl)
    (no_double_name (before ++ g ∷ []) fs (λ j f at. subst (λ xs. has_function xs f.name ≡ false) (sym (append_assoc before (g ∷ []) (take j fs))) (h (suc j) f at)) (λ j f at. t (suc j) f at)))

not_past : (n : ℕ) (fs : List Func) → n + length fs ≤ 64 → ((k : ℕ) (f : Func) → slice_get fs k ≡ Some f → length f.tables ≤ 64) → past_most n fs ≡ None
not_past n [] l h = refl
not_past n (f ∷ fs) l h =
    kept_where (nat_lt n 64) (option_or (option_map (λ t. (t.line, TooMany)) (slice_get f.tables 64)) (past_most (n + 1) fs)) (f.line, TooMany) (lt-ltb n 64 (omega arith))
    (neither_there (option_map (λ t. (t.line, TooMany)) (slice_get f.tables 64)) (past_most (n + 1) fs) (ap (option_map (λ t. (t.line, TooMany))) (slice_get_past f.tables 64 (h 0 f refl)))
    (not_past (n + 1) fs (omega arith) (λ k g at. h (suc k) g at)))

no_site : (r : Rule) (fs : List Func) (f : Func) (w : Bool) (ss : List Spot) → ((k : ℕ) (s : Spot) → slice_get ss k ≡ Some s → named r fs f w s ≡ None) → first_site r fs f w ss ≡ None
no_site r fs f w [] h = refl
no_site r fs f w (u ∷ ss) h =
    neither_there (option_map (λ n. (line_at u.1, why_of r n)) (named r fs f w u)) (first_site r fs f w ss) (ap (option_map (λ n. (line_at u.1, why_of r n))) (h 0 u refl))
    (no_site r fs f w ss (λ k s at. h (suc k) s at))

no_statement : (r : Rule) (fs gs : List Func) (m : ℕ) → ((n k : ℕ) (f : Func) → n ≡ m + k → slice_get gs k ≡ Some f → first_site r fs f (reaches Call fs (blocks fs) n) (sites_of f.body) ≡ None) → first_from r fs m gs ≡ None
no_statement r fs [] m h = refl
no_statement r fs (g ∷ gs) m h =
    neither_there (first_site r fs g (reaches Call fs (blocks fs) m) (sites_of g.body)) (first_from r fs (m + 1) gs) (h m 0 g (omega arith) refl)
    (no_statement r fs gs (m + 1) (λ n k f is at. h n (suc k) f (omega arith) at))

no_rule : (fs : List Func) (rs : List Rule) → ((r : Rule) → first_statement r fs ≡ None) → first_broken fs rs ≡ None
no_rule fs [] h = refl
no_rule fs (r ∷ rs) h = neither_there (first_statement r fs) (first_broken fs rs) (h r) (no_rule fs rs h)

no_cycle : (fs gs : List Func) (m : ℕ) → ((n k : ℕ) → n ≡ m + k → k < length gs → reaches Start fs n n ≡ false) → first_cycle fs m gs ≡ None
no_cycle fs [] m h = refl
no_cycle fs (g ∷ gs) m h =
    not_if (reaches Start fs m m) (g.line, CallCycle g.name) (first_cycle fs (m + 1) gs) (h m 0 (omega arith) (omega arith))
    (no_cycle fs gs (m + 1) (λ n k is l. h n (suc k) (omega arith) (omega arith)))

accepted : (fs : List Func) → KeepsRules fs → first_offence fs ≡ None
accepted fs k =
    let each : (r : Rule) → first_statement r fs ≡ None = λ r. no_statement r fs fs 0 (λ n i f is at. let same : i ≡ n = omega arith in no_site r fs f (reaches Call fs (blocks fs) n) (sites_of f.body) (λ j s on. k.statements r n j f s (subst (λ m. slice_get fs m ≡ Some f) same at) on)) in
    neither_there (double_name [] fs) _
    (no_double_name [] fs
    (λ j f at. none_of_each (λ g. is_name g.name f.name) (take j fs) (λ i g on. let w = within_taken fs i j g on in k.names i j g f w.0 w.1 at))
    (λ n f at. no_double_table [] f.tables (λ j t on. none_of_each (λ s. is_name s.name t.name) (take j f.tables) (λ i s in_front. let w = within_taken f.tables i j s in_front in k.tables n i j f s t at w.0 w.1 on))))
    (neither_there (past_most 0 fs) _ (not_past 0 fs (let few = k.few in omega (arith, few)) k.few_tables)
    (neither_there (first_broken fs rules_of_places) _ (no_rule fs rules_of_places each)
    (neither_there (first_cycle fs 0 fs) _ (no_cycle fs fs 0 (λ n i is l. let same : i ≡ n = omega arith in k.acyclic n (subst (λ m. m < length fs) same l)))
    (no_rule fs rules_of_transactions each))))

pub accepts_exactly : AcceptsExactly
accepts_exactly d = (keeps d.funcs, accepted d.funcs)
