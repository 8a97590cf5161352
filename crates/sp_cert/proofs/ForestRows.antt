-- The rows of a forest: its sources, its words by vertex, and its rows one by one.
use Rattle.std.proofs.Common.{◌≡◌, ℕ, zero, suc, ◌+◌, ◌-◌, ◌<◌, ◌≤◌, ◌⊎◌, inl, inr, Bool, true, false, eqb, cond, List, [], ◌∷◌, ◌++◌, length, get_or, take, length-take, length-set, Option, Some, None, sym, refl, ap, ◌∙◌, subst, arith}
use Rattle.std.specs.Prelude.{Contains, All, slice_set}
use Rattle.std.specs.Option.{option_eq}
use Rattle.std.proofs.lemmas.Bool.{cases_eq, eq-eqb, eqb-true, ne_eqb, cond-true, cond-false, cases_Bool}
use Rattle.std.proofs.lemmas.List.{take_more, get_or-set_other, get_or-set_same, get_or_default}
use Rattle.sp_word.specs.Word.{Word, Unreached, Pair, max_dist, pred_of}
use Rattle.sp_paths.specs.Paths.{IsVertex, IsWithin, word_at}
use Rattle.sp_paths.proofs.Core.{pair_pred}
use Rattle.sp_answer.specs.Table.{IsPairWithin, HasPredWithin}
use Rattle.sp_answer.specs.ForestTable.{Row, ForestTable, IsForestTable, AreRows, row_in, word_of, root_in, table_of, root_of}
use Rattle.sp_cert.specs.declared.rule.Rule.{Rule}
use Rattle.sp_cert.specs.declared.rule.Rule.TheVariants.{Size, OwnSource, NoLesserOffer, NamesPredecessor, OnlyTooFar, BeyondLimit, OtherRoot}
use Rattle.sp_cert.specs.declared.fault.BrokenRule.{BrokenRule}
use Rattle.sp_cert.specs.Rules.{number_of}
use Rattle.sp_cert.specs.Faults.{IsFirstOf, IsBroken, BreaksRoot, FaultAt, FaultOfVertex}
use Rattle.sp_cert.proofs.FirstSteps.{OfAny, first_same}
use Rattle.sp_cert.specs.Claims.{has_no_pred, sources_of, sources_in}
use Rattle.sp_cert.specs.ForestRows.{IsOwnRow}

-- ## What a list with one element more in front contains

front : {A : Type 0} (x y : A) (xs : List A) → Contains (x ∷ xs) y → (x ≡ y) ⊎ Contains xs y
front x y xs (zero, lt, is) = inl is
front x y xs (suc k, lt, is) = inr (k, omega arith, is)

first : {A : Type 0} (x : A) (xs : List A) → Contains (x ∷ xs) x
first x xs = (0, omega arith, refl)

later : {A : Type 0} (x y : A) (xs : List A) → Contains xs y → Contains (x ∷ xs) y
later x y xs (k, lt, is) = (suc k, omega arith, is)

nothing : {A : Type 0} (y : A) → Contains [] y → ⊥
nothing y c = absurd (omega (arith, c.1))

some_is : {A : Type 0} (x y : A) → Some x ≡ Some y → x ≡ y
some_is x y e = cc

none_some : (x : ℕ) → None ≡ Some x → ⊥
none_some x e = cc

false_true : false ≡ true → ⊥
false_true e = cc

-- ## Rows

-- the row that is found is one of the rows
pub found : (rows : List Row) (v : ℕ) (row : Row) → row_in rows v ≡ Some row → Contains rows row × (row.0 ≡ v)
found [] v row e = absurd (cc)
found (r ∷ rows) v row e = go (cases_Bool (eqb r.0 v)) (found rows v row)
  where
    go : (eqb r.0 v ≡ true) ⊎ (eqb r.0 v ≡ false) → (row_in rows v ≡ Some row → Contains rows row × (row.0 ≡ v)) → Contains (r ∷ rows) row × (row.0 ≡ v)
    go (inl t) rest =
        let same : r ≡ row = some_is r row (sym (cond-true (eqb r.0 v) (Some r) (row_in rows v) t) ∙ e) in
        ((0, omega arith, same), ap (λ (x : Row). x.0) (sym same) ∙ eqb-true r.0 v t)
    go (inr f) rest = let at = rest (sym (cond-false (eqb r.0 v) (Some r) (row_in rows v) f) ∙ e) in (later r row rows at.0, at.1)

-- what is known of a row
pub record IsRowWithin (max n last : ℕ) (row : Row) : Type 0 where
  pub above : last < row.0
  pub most : row.0 ≤ n
  pub word : IsPairWithin max n row.1
  pub root : IsVertex n row.2

pub each : (max n last : ℕ) (rows : List Row) → AreRows max n last rows → (row : Row) → Contains rows row → IsRowWithin max n last row
each max n last [] h row c = absurd (nothing row c)
each max n last (r ∷ rows) h row c = go (front r row rows c) (each max n r.0 rows h.4 row)
  where
    go : (r ≡ row) ⊎ Contains rows row → (Contains rows row → IsRowWithin max n r.0 row) → IsRowWithin max n last row
    go (inl same) rest = subst (IsRowWithin max n last) same (record { above = h.0; most = h.1; word = h.2; root = h.3 })
    go (inr c') rest = let k = rest c' in record { above = omega (arith, h.0, k.above); most = k.most; word = k.word; root = k.root }

-- each row is that of its vertex
pub own_row : (max n last : ℕ) (rows : List Row) → AreRows max n last rows → (row : Row) → Contains rows row → row_in rows row.0 ≡ Some row
own_row max n last [] h row c = absurd (nothing row c)
own_row max n last (r ∷ rows) h row c = go (front r row rows c) (own_row max n r.0 rows h.4 row)
  where
    go : (r ≡ row) ⊎ Contains rows row → (Contains rows row → row_in rows row.0 ≡ Some row) → row_in (r ∷ rows) row.0 ≡ Some row
    go (inl same) rest = cond-true (eqb r.0 row.0) (Some r) (row_in rows row.0) (eq-eqb r.0 row.0 (ap (λ (x : Row). x.0) same)) ∙ ap (λ (x : Row). Some x) same
    go (inr c') rest =
        let k = each max n r.0 rows h.4 row c' in
        cond-false (eqb r.0 row.0) (Some r) (row_in rows row.0) (ne_eqb r.0 row.0 (λ e. omega (arith, k.above, e))) ∙ rest c'

-- a vertex with a pair has a row
row_with : (found : Option Row) (d p : ℕ) → word_of found ≡ Pair d p → (row : Row) × (found ≡ Some row) × (row.1 ≡ Pair d p)
row_with None d p e = absurd (cc)
row_with (Some row) d p e = (row, refl, e)

pub row_of_pair : (rows : List Row) (v d p : ℕ) → word_of (row_in rows v) ≡ Pair d p → (row : Row) × Contains rows row × (row.0 ≡ v) × (row.1 ≡ Pair d p)
row_of_pair rows v d p e =
    let (row, is, word) = row_with (row_in rows v) d p e in
    let at = found rows v row is in
    (row, at.0, at.1, word)

-- ## Sources

no_pred_is : (w : Word) → has_no_pred w ≡ true → (d : ℕ) × (w ≡ Pair d 0)
no_pred_is Unreached h = absurd (cc)
no_pred_is (Pair d p) h = (d, ap (λ x. Pair d x) (eqb-true p 0 h))

no_pred_of : (w : Word) (d : ℕ) → w ≡ Pair d 0 → has_no_pred w ≡ true
no_pred_of w d e = ap has_no_pred e

listed_row : (rows : List Row) (x : ℕ) → Contains (sources_of rows) x → (row : Row) × Contains rows row × (row.0 ≡ x) × (has_no_pred row.1 ≡ true)
listed_row [] x c = absurd (nothing x c)
listed_row (r ∷ rows) x c = go (cases_Bool (has_no_pred r.1)) (listed_row rows x)
  where
    kept : (row : Row) × Contains rows row × (row.0 ≡ x) × (has_no_pred row.1 ≡ true) → (row : Row) × Contains (r ∷ rows) row × (row.0 ≡ x) × (has_no_pred row.1 ≡ true)
    kept (row, c', e, none) = (row, later r row rows c', e, none)

    at : has_no_pred r.1 ≡ true → (r.0 ≡ x) ⊎ Contains (sources_of rows) x → (Contains (sources_of rows) x → (row : Row) × Contains rows row × (row.0 ≡ x) × (has_no_pred row.1 ≡ true)) → (row : Row) × Contains (r ∷ rows) row × (row.0 ≡ x) × (has_no_pred row.1 ≡ true)
    at t (inl e) rest = (r, first r rows, e, t)
    at t (inr c') rest = kept (rest c')

    go : (has_no_pred r.1 ≡ true) ⊎ (has_no_pred r.1 ≡ false) → (Contains (sources_of rows) x → (row : Row) × Contains rows row × (row.0 ≡ x) × (has_no_pred row.1 ≡ true)) → (row : Row) × Contains (r ∷ rows) row × (row.0 ≡ x) × (has_no_pred row.1 ≡ true)
    go (inl t) rest = at t (front r.0 x (sources_of rows) (subst (λ xs. Contains xs x) (cond-true (has_no_pred r.1) (r.0 ∷ sources_of rows) (sources_of rows) t) c)) rest
    go (inr f) rest = kept (rest (subst (λ xs. Contains xs x) (cond-false (has_no_pred r.1) (r.0 ∷ sources_of rows) (sources_of rows) f) c))

row_listed : (rows : List Row) (row : Row) → Contains rows row → has_no_pred row.1 ≡ true → Contains (sources_of rows) row.0
row_listed [] row c none = absurd (nothing row c)
row_listed (r ∷ rows) row c none = go (cases_Bool (has_no_pred r.1)) (front r row rows c) (λ c'. row_listed rows row c' none)
  where
    go : (has_no_pred r.1 ≡ true) ⊎ (has_no_pred r.1 ≡ false) → (r ≡ row) ⊎ Contains rows row → (Contains rows row → Contains (sources_of rows) row.0) → Contains (sources_of (r ∷ rows)) row.0
    go (inl t) (inl same) rest = subst (λ xs. Contains xs row.0) (sym (cond-true (has_no_pred r.1) (r.0 ∷ sources_of rows) (sources_of rows) t)) (subst (Contains (r.0 ∷ sources_of rows)) (ap (λ (x : Row). x.0) same) (first r.0 (sources_of rows)))
    go (inl t) (inr c') rest = subst (λ xs. Contains xs row.0) (sym (cond-true (has_no_pred r.1) (r.0 ∷ sources_of rows) (sources_of rows) t)) (later r.0 row.0 (sources_of rows) (rest c'))
    go (inr f) (inl same) rest = absurd (false_true (sym f ∙ (ap (λ (x : Row). has_no_pred x.1) same ∙ none)))
    go (inr f) (inr c') rest = subst (λ xs. Contains xs row.0) (sym (cond-false (has_no_pred r.1) (r.0 ∷ sources_of rows) (sources_of rows) f)) (rest c')

module _ (P : ℕ) (f : ForestTable) (table : IsForestTable P f) where
  pub source_listed : (v : ℕ) → (d : ℕ) × (table_of f v ≡ Pair d 0) → Contains (sources_in f) v
  source_listed v (d, e) =
      let (row, c, at, word) = row_of_pair f.rows v d 0 e in
      subst (Contains (sources_in f)) at (row_listed f.rows row c (no_pred_of row.1 d word))

  pub listed_source : (v : ℕ) → Contains (sources_in f) v → (d : ℕ) × (table_of f v ≡ Pair d 0)
  listed_source v c =
      let (row, c', at, none) = listed_row f.rows v c in
      let (d, word) = no_pred_is row.1 none in
      let is : row_in f.rows v ≡ Some row = subst (λ x. row_in f.rows x ≡ Some row) at (own_row (max_dist P) f.n 0 f.rows table.rows row c') in
      (d, ap word_of is ∙ word)

  pub listed_vertex : (v : ℕ) → Contains (sources_in f) v → IsVertex f.n v
  listed_vertex v c =
      let (row, c', at, none) = listed_row f.rows v c in
      let k = each (max_dist P) f.n 0 f.rows table.rows row c' in
      subst (IsVertex f.n) at (omega (arith, k.above), k.most)

  pub forest_within : (n : ℕ) → IsWithin n (max_dist P) (table_of f)
  forest_within n v d p h e =
      let (row, c, at, word) = row_of_pair f.rows v d p e in
      let k = each (max_dist P) f.n 0 f.rows table.rows row c in
      let pair : IsPairWithin (max_dist P) f.n (Pair d p) = subst (IsPairWithin (max_dist P) f.n) word k.word in
      pair.0

  pred_within : (w : Word) → IsPairWithin (max_dist P) f.n w → HasPredWithin f.n w
  pred_within Unreached h = tt
  pred_within (Pair d p) h = h.1

  pub own : (row : Row) → Contains f.rows row → IsOwnRow f row
  own row c =
      let k = each (max_dist P) f.n 0 f.rows table.rows row c in
      record { own = own_row (max_dist P) f.n 0 f.rows table.rows row c; vertex = (omega (arith, k.above), k.most); pred = pred_within row.1 k.word }

  pub own_rows : All (IsOwnRow f) f.rows
  own_rows k d lt = let row = get_or f.rows k d in own row (k, lt, get_or_default f.rows k row d lt)

-- ## Faults of rows

module _ (P : ℕ) (f : ForestTable) (table : IsForestTable P f) where
  abbrev Roots : ℕ → Rule → Type 0
  Roots = BreaksRoot (table_of f) (root_of f)

  abbrev OfRow : Row → ℕ → Rule → Type 0
  OfRow row = FaultAt Roots row.0

  of_row : (v : ℕ) (rule : Rule) → OfAny OfRow f.rows v rule → FaultOfVertex f.n Roots v rule
  of_row v rule (row, c, (e, b)) = (subst (IsVertex f.n) (sym e) (own P f table row c).vertex, subst (λ x. Roots x rule) (sym e) b)

  with_pair : (v d p : ℕ) (rule : Rule) → table_of f v ≡ Pair d p → Roots v rule → OfAny OfRow f.rows v rule
  with_pair v d p rule e b =
      let (row, c, at, word) = row_of_pair f.rows v d p e in
      (row, c, (sym at, subst (λ x. Roots x rule) (sym at) b))

  to_row : (v : ℕ) (rule : Rule) → FaultOfVertex f.n Roots v rule → OfAny OfRow f.rows v rule
  to_row v Size (k, b) = absurd b
  to_row v OwnSource (k, (source, b)) = with_pair v source.0 0 OwnSource source.1 (source, b)
  to_row v NoLesserOffer (k, b) = absurd b
  to_row v NamesPredecessor (k, b) = absurd b
  to_row v OnlyTooFar (k, b) = absurd b
  to_row v BeyondLimit (k, b) = absurd b
  to_row v OtherRoot (k, (d, p, e, other, b)) = with_pair v d p OtherRoot e (d, p, e, other, b)

  pub first_of_rows : (r : Option BrokenRule) → IsFirstOf (OfAny OfRow f.rows) r → IsFirstOf (FaultOfVertex f.n Roots) r
  first_of_rows r h = first_same (OfAny OfRow f.rows) (FaultOfVertex f.n Roots) of_row to_row r h

-- the rule that a row breaks by its root
module _ (f : ForestTable) (row : Row) (h : IsOwnRow f row) where
  word_is : table_of f row.0 ≡ row.1
  word_is = ap word_of h.own

  root_is : root_of f row.0 ≡ Some row.2
  root_is = ap root_in h.own

  abbrev Of : Rule → Type 0
  Of rule = BreaksRoot (table_of f) (root_of f) row.0 rule

  module _ (d : ℕ) (is : row.1 ≡ Pair d 0) where
    source_row : (d' : ℕ) × (table_of f row.0 ≡ Pair d' 0)
    source_row = (d, word_is ∙ is)

    pub source_none : row.2 ≡ row.0 → IsBroken Of None
    source_none same Size b = b
    source_none same OwnSource b = b.1 (root_is ∙ ap (λ (x : ℕ). Some x) same)
    source_none same NoLesserOffer b = b
    source_none same NamesPredecessor b = b
    source_none same OnlyTooFar b = b
    source_none same BeyondLimit b = b
    source_none same OtherRoot (d', p, e, other, foreign) = other source_row

    pub source_broken : (row.2 ≡ row.0 → ⊥) → IsBroken Of (Some OwnSource)
    source_broken away = ((source_row, λ e. away (some_is row.2 row.0 (sym root_is ∙ e))), least)
      where
        least : (rule : Rule) → Of rule → number_of OwnSource ≤ number_of rule
        least Size b = absurd b
        least OwnSource b = omega arith
        least NoLesserOffer b = absurd b
        least NamesPredecessor b = absurd b
        least OnlyTooFar b = absurd b
        least BeyondLimit b = absurd b
        least OtherRoot b = omega arith

  module _ (d p : ℕ) (is : row.1 ≡ Pair d p) (other : p ≡ 0 → ⊥) where
    pred_is : (d' p' : ℕ) → table_of f row.0 ≡ Pair d' p' → p' ≡ p
    pred_is d' p' e = pair_pred d' p' d p (sym e ∙ (word_is ∙ is))

    no_source : (d' : ℕ) × (table_of f row.0 ≡ Pair d' 0) → ⊥
    no_source (d', e) = other (sym (pred_is d' 0 e))

    pub root_none : root_of f p ≡ Some row.2 → IsBroken Of None
    root_none same Size b = b
    root_none same OwnSource b = no_source b.0
    root_none same NoLesserOffer b = b
    root_none same NamesPredecessor b = b
    root_none same OnlyTooFar b = b
    root_none same BeyondLimit b = b
    root_none same OtherRoot (d', p', e, other', foreign) = foreign (root_is ∙ (sym same ∙ ap (root_of f) (sym (pred_is d' p' e))))

    pub root_broken : (root_of f p ≡ Some row.2 → ⊥) → IsBroken Of (Some OtherRoot)
    root_broken away = ((d, p, word_is ∙ is, no_source, λ e. away (sym e ∙ root_is)), least)
      where
        least : (rule : Rule) → Of rule → number_of OtherRoot ≤ number_of rule
        least Size b = absurd b
        least OwnSource b = absurd (no_source b.0)
        least NoLesserOffer b = absurd b
        least NamesPredecessor b = absurd b
        least OnlyTooFar b = absurd b
        least BeyondLimit b = absurd b
        least OtherRoot b = omega arith

-- ## The count of sources

abbrev pub one_if : Bool → ℕ
one_if true = 1
one_if false = 0

pub counted_more : (rows : List Row) (row : Row) → length (sources_of (rows ++ row ∷ [])) ≡ length (sources_of rows) + one_if (has_no_pred row.1)
counted_more [] row = go (has_no_pred row.1)
  where
    go : (b : Bool) → length (cond b (row.0 ∷ []) []) ≡ 0 + one_if b
    go true = refl
    go false = refl
counted_more (r ∷ rows) row = go (has_no_pred r.1) (sources_of rows) (sources_of (rows ++ row ∷ [])) (one_if (has_no_pred row.1)) (counted_more rows row)
  where
    go : (b : Bool) (xs ys : List ℕ) (k : ℕ) → length ys ≡ length xs + k → length (cond b (r.0 ∷ ys) ys) ≡ length (cond b (r.0 ∷ xs) xs) + k
    go true xs ys k h = omega (arith, h)
    go false xs ys k h = h

pub few_sources : (rows : List Row) → length (sources_of rows) ≤ length rows
few_sources [] = omega arith
few_sources (r ∷ rows) = go (has_no_pred r.1) (sources_of rows) (few_sources rows)
  where
    go : (b : Bool) (xs : List ℕ) → length xs ≤ length rows → length (cond b (r.0 ∷ xs) xs) ≤ suc (length rows)
    go true xs h = omega (arith, h)
    go false xs h = omega (arith, h)

-- whether a word has predecessor 0
no_pred_test : (w : Word) → has_no_pred w ≡ option_eq eqb (pred_of w) (Some 0)
no_pred_test Unreached = refl
no_pred_test (Pair d p) = refl

-- one row more
pub counted_next : (rows : List Row) (i : ℕ) (row : Row) (pred : Option ℕ) (b : Bool) (count next : ℕ) → i < length rows → row ≡ get_or rows i row → pred ≡ pred_of row.1 → b ≡ option_eq eqb pred (Some 0) → count ≡ length (sources_of (take i rows)) → next ≡ count + one_if b → next ≡ length (sources_of (take (i + 1) rows))
counted_next rows i row pred b count next lt is from test before after =
    let more : take (i + 1) rows ≡ take i rows ++ row ∷ [] = take_more rows i row lt ∙ ap (λ x. take i rows ++ x ∷ []) (sym is) in
    let same : one_if (has_no_pred row.1) ≡ one_if b = ap one_if (no_pred_test row.1 ∙ (ap (λ x. option_eq eqb x (Some 0)) (sym from) ∙ sym test)) in
    let sum = counted_more (take i rows) row in
    let whole = ap (λ xs. length (sources_of xs)) more in
    omega (arith, before, after, same, sum, whole)

pub count_fits : (rows : List Row) (i count : ℕ) → i < length rows → count ≡ length (sources_of (take i rows)) → count < length rows
count_fits rows i count lt is = let few = few_sources (take i rows) in let size = length-take i rows in omega (arith, lt, is, few, size)

pub pair_of_pred : (w : Word) (o : Option ℕ) (p : ℕ) → o ≡ pred_of w → o ≡ Some p → (d : ℕ) × (w ≡ Pair d p)
pair_of_pred Unreached o p e is = absurd (none_some p (sym e ∙ is))
pair_of_pred (Pair d q) o p e is = (d, ap (λ x. Pair d x) (some_is q p (sym e ∙ is)))

pub other_option : (a : Option ℕ) (r : ℕ) (b : Bool) → b ≡ option_eq eqb a (Some r) → b ≡ false → a ≡ Some r → ⊥
other_option a r b test none e = false_true (sym none ∙ (test ∙ (ap (λ x. option_eq eqb x (Some r)) e ∙ eq-eqb r r refl)))

-- ## The copy of the words

-- every vertex of the rows is below v
abbrev Below : ℕ → List Row → Type 0
Below v [] = Unit {0}
Below v (row ∷ more) = (row.0 < v) × Below v more

push_other : (rows : List Row) (row : Row) (v : ℕ) → (row.0 ≡ v → ⊥) → row_in (rows ++ row ∷ []) v ≡ row_in rows v
push_other [] row v other = cond-false (eqb row.0 v) (Some row) None (ne_eqb row.0 v other)
push_other (r ∷ rows) row v other = go (cases_Bool (eqb r.0 v)) (push_other rows row v other)
  where
    go : (eqb r.0 v ≡ true) ⊎ (eqb r.0 v ≡ false) → row_in (rows ++ row ∷ []) v ≡ row_in rows v → row_in (r ∷ rows ++ row ∷ []) v ≡ row_in (r ∷ rows) v
    go (inl t) rest = cond-true (eqb r.0 v) (Some r) (row_in (rows ++ row ∷ []) v) t ∙ sym (cond-true (eqb r.0 v) (Some r) (row_in rows v) t)
    go (inr f) rest = cond-false (eqb r.0 v) (Some r) (row_in (rows ++ row ∷ []) v) f ∙ (rest ∙ sym (cond-false (eqb r.0 v) (Some r) (row_in rows v) f))

push_here : (rows : List Row) (row : Row) → Below row.0 rows → row_in (rows ++ row ∷ []) row.0 ≡ Some row
push_here [] row h = cond-true (eqb row.0 row.0) (Some row) None (eq-eqb row.0 row.0 refl)
push_here (r ∷ rows) row h = cond-false (eqb r.0 row.0) (Some r) (row_in (rows ++ row ∷ []) row.0) (ne_eqb r.0 row.0 (λ e. omega (arith, h.0))) ∙ push_here rows row h.1

above_last : (max n last : ℕ) (rows : List Row) → AreRows max n last rows → (i : ℕ) (d : Row) → i < length rows → last < (get_or rows i d).0
above_last max n last [] h i d lt = absurd (omega arith)
above_last max n last (r ∷ rows) h zero d lt = h.0
above_last max n last (r ∷ rows) h (suc i) d lt = omega (arith, h.0, above_last max n r.0 rows h.4 i d (omega arith))

taken_below : (max n last : ℕ) (rows : List Row) → AreRows max n last rows → (i : ℕ) (d : Row) → i < length rows → Below (get_or rows i d).0 (take i rows)
taken_below max n last [] h i d lt = absurd (omega arith)
taken_below max n last (r ∷ rows) h zero d lt = tt
taken_below max n last (r ∷ rows) h (suc i) d lt = (above_last max n r.0 rows h.4 i d (omega arith), taken_below max n r.0 rows h.4 i d (omega arith))

row_vertex : (max n last : ℕ) (rows : List Row) → AreRows max n last rows → (i : ℕ) (d : Row) → i < length rows → IsVertex n (get_or rows i d).0
row_vertex max n last [] h i d lt = absurd (omega arith)
row_vertex max n last (r ∷ rows) h zero d lt = (omega (arith, h.0), h.1)
row_vertex max n last (r ∷ rows) h (suc i) d lt = row_vertex max n r.0 rows h.4 i d (omega arith)

-- the words of the first rows
pub record IsCopied (n : ℕ) (rows : List Row) (words : List Word) : Type 0 where
  pub size : length words ≡ n
  pub each : (v : ℕ) → IsVertex n v → word_at words v ≡ word_of (row_in rows v)

module _ (P : ℕ) (t : ForestTable) (table : IsForestTable P t) (rows : List Row) (same : rows ≡ t.rows) (i : ℕ) (row : Row) (lt : i < length rows) (is : row ≡ get_or rows i row) where
  rising : AreRows (max_dist P) t.n 0 rows
  rising = rw same table.rows

  pub row_at : IsVertex t.n row.0
  row_at = subst (λ r. IsVertex t.n r.0) (sym is) (row_vertex (max_dist P) t.n 0 rows rising i row lt)

  below : Below row.0 (take i rows)
  below = subst (λ r. Below r.0 (take i rows)) (sym is) (taken_below (max_dist P) t.n 0 rows rising i row lt)

  pub next : take (i + 1) rows ≡ take i rows ++ row ∷ []
  next = take_more rows i row lt ∙ ap (λ x. take i rows ++ x ∷ []) (sym is)

  module _ (words : List Word) (h : IsCopied t.n (take i rows) words) where
    one_more : (v : ℕ) → IsVertex t.n v → (v ≡ row.0) ⊎ (v ≡ row.0 → ⊥) → word_at (slice_set words (row.0 - 1) row.1) v ≡ word_of (row_in (take i rows ++ row ∷ []) v)
    one_more v k (inl here) =
        let set' : word_at (slice_set words (row.0 - 1) row.1) row.0 ≡ row.1 = get_or-set_same words (row.0 - 1) row.1 Unreached (omega (arith, row_at, h.size)) in
        rw here (set' ∙ sym (ap word_of (push_here (take i rows) row below)))
    one_more v k (inr other) =
        get_or-set_other words (row.0 - 1) (v - 1) row.1 Unreached (λ e. other (omega (arith, row_at, k)))
        ∙ (h.each v k ∙ sym (ap word_of (push_other (take i rows) row v (λ e. other (sym e)))))

    pub copied_more : IsCopied t.n (take (i + 1) rows) (slice_set words (row.0 - 1) row.1)
    copied_more = record { size = length-set words (row.0 - 1) row.1 ∙ h.size; each = λ v k. rw next (one_more v k (cases_eq v row.0)) }
