-- What bbolt fails on in a file whose pages are even: values in the root
-- bucket, large keys and branches of one child. If its tree has short keys, and
-- buckets alone in its root bucket, branches of one child alone.
use Rattle.std.proofs.Common.{◌≡◌, ◌∙◌, ◌==◌, ◌&&◌, ◌≤◌, ℕ, Bool, true, false, List, [], ◌∷◌, ◌++◌, Option, Some, None, Ok, Err, Result, ap, ap₂}
use Rattle.std.proofs.Common.{append-nil, cond, flat_map, inl, inr, length, map, not, refl, slice_get, subst, sym, arith}
use Rattle.std.specs.{List.list_any, Option.option_map}
use Rattle.std.specs.Prelude.{is_some}
use Rattle.std.proofs.{lemmas.Bool.eqb-true, lemmas.Option.none-some, lemmas.Option.same_Some, lemmas.Option.slice_get-map}
use Rattle.std.proofs.Math.Bool.{and-false}
use Rattle.bolt_lemmas.proofs.Exports.{all_append}
use Rattle.bolt_lemmas.specs.Lists.{Has}
use Rattle.bolt_layout.proofs.Words.{AllByRecursion, At_inline, At_page, Contains, contains_cases, contains_head, contains_none, contains_tail, end}
use Rattle.bolt_layout.proofs.Words.{Entry, eq-eqb, follow, HasSoundTrees, head_root, Inline_page, inline_elements, inline_page, InlinePage, IsEntry}
use Rattle.bolt_layout.proofs.Words.{IsTreeOf, Key, leaf_entry, LeafElement, length-map, Meta, ne_eqb, Node, node_at, Nodes, page_at, PageSpot}
use Rattle.bolt_layout.proofs.Words.{PageView, reached, root_spot, Root_page, Spot, Start, start_of, Tree, with_bucket, with_value}
use Rattle.bolt_layout.proofs.{EvenWays.IsEvenSpot, EvenWays.leaf_is_first, EvenWays.same_node}
use Rattle.bolt_layout.specs.ForBbolt.{HasShortKeys, HoldsBuckets, IsOneChild}
use Rattle.bolt_check.proofs.Exports.{a_branch, a_leaf, branch_node, leaf_node, tree_page, follow_some, leads_follow}
use Rattle.bolt_check.specs.BboltFindings.{AreBboltFindings, begins_otherwise, finding_if, has_one_child, has_other_first_key, inline_findings}
use Rattle.bolt_check.specs.BboltFindings.{is_in_root, is_large_value, is_too_large, is_value, leaves_at, node_findings, seen_findings, spot_findings}
use Rattle.bolt_check.specs.BboltFindings.{way_findings}
use Rattle.bolt_check.specs.declared.finding.TheConstants.Finding.{FIRST_KEY, INLINE_NUMBER, LARGE_KEY, LEAF_DEPTH, ONE_CHILD, ROOT_VALUE}
use Rattle.bolt_check.specs.{Findings.finding, Findings.keys_of, Nodes.branch_entry, Shape.child_at, Shape.child_in, Shape.child_of}
use Rattle.bolt_check.specs.{Shape.leads}
use Rattle.bolt_check.specs.{Ways.bucket_spots, Ways.child_spot, Ways.step, Ways.step_entry, Ways.upper_from, declared.finding.Finding.Finding}
use Rattle.bolt_format.proofs.Exports.{bucket_value, flat_inline}
use Rattle.bolt_format.specs.Elements.{IsBucketValue}
use Rattle.bolt_tree.proofs.Exports.{contains_at}
use Rattle.bolt_tree.specs.{Entries.AreEntries, Tree.Shows}
use Rattle.bolt_format.specs.declared.header.Kind.TheVariants as kind

abbrev IsShort : Key → Type 0
IsShort key = is_too_large key ≡ false

-- ---- lists

-- all of these keys are short
short_any : (keys : List Key) → AllByRecursion IsShort keys → list_any is_too_large keys ≡ false
short_any [] all = refl
short_any (key ∷ keys) all = rw (all.0, short_any keys all.1) refl

large_none : (bucket : Bool) (e : LeafElement) → e.is_bucket ≡ bucket → (e.is_bucket ≡ false → IsShort e.key) → is_large_value (leaf_entry e) ≡ false
large_none true e is short = rw is refl
large_none false e is short = let key = short is in rw (is, key) refl

-- none of these is a value under a key that is too large
large_any : (es : List LeafElement) → ((e : LeafElement) → Contains es e → e.is_bucket ≡ false → IsShort e.key)
    → list_any is_large_value (map leaf_entry es) ≡ false
large_any [] each = refl
large_any (e ∷ es) each = rw (large_none e.is_bucket e refl (each e (contains_head e es)), large_any es (λ x has. each x (contains_tail e x es has))) refl

inner_short : (es : List LeafElement) → ((e : LeafElement) → Contains es e → IsShort e.key)
    → AllByRecursion IsShort (map (λ (e : LeafElement). e.key) es)
inner_short [] each = tt
inner_short (e ∷ es) each = (each e (contains_head e es), inner_short es (λ x has. each x (contains_tail e x es has)))

buckets_any : (es : List LeafElement) → ((e : LeafElement) → Contains es e → e.is_bucket ≡ true) → list_any is_value (map leaf_entry es) ≡ false
buckets_any [] each = refl
buckets_any (e ∷ es) each = rw (each e (contains_head e es), buckets_any es (λ x has. each x (contains_tail e x es has))) refl

-- ---- what a tree shows

module _ (file : List ℕ) (meta : Meta) where
  abbrev nodes : Nodes
  nodes = node_at file meta

  abbrev Own : Start → LeafElement → Type 0
  Own = IsEntry file meta

  shows_short : (tree : Tree) (es : List LeafElement) → Shows Own tree es → HasShortKeys tree → (e : LeafElement) → Contains es e
      → e.is_bucket ≡ false → IsShort e.key
  shows_short end [] shows short e has value = absurd (contains_none e has)
  shows_short (with_value key value after) (x ∷ es) shows short e has own =
      elim (contains_cases x e es has) [
        | inl is ↦ ap is_too_large (ap (λ (y : LeafElement). y.key) (sym is) ∙ shows.1) ∙ short.0
        | inr later ↦ shows_short after es shows.3 short.1 e later own
      ]
  shows_short (with_bucket key sequence inside after) (x ∷ es) shows short e has own =
      elim (contains_cases x e es has) [
        | inl is ↦ absurd (let no : x.is_bucket ≡ true = shows.0 in let yes : x.is_bucket ≡ false = ap (λ (y : LeafElement). y.is_bucket) is ∙ own in cc)
        | inr later ↦ shows_short after es shows.4 short.1 e later own
      ]
  shows_short end (x ∷ es) shows short e has own = absurd shows
  shows_short (with_value key value after) [] shows short e has own = absurd shows
  shows_short (with_bucket key sequence inside after) [] shows short e has own = absurd shows

  -- a bucket with this start has a tree with short keys
  abbrev IsShortBucket : Start → Type 0
  IsShortBucket start = (tree : Tree) × (es : List LeafElement) × AreEntries Own start es × Shows Own tree es × HasShortKeys tree

  shows_inside : (tree : Tree) (es : List LeafElement) → Shows Own tree es → HasShortKeys tree → (e : LeafElement) → Contains es e
      → e.is_bucket ≡ true → IsShortBucket (start_of e.value)
  shows_inside end [] shows short e has bucket = absurd (contains_none e has)
  shows_inside (with_value key value after) (x ∷ es) shows short e has bucket =
      elim (contains_cases x e es has) [
        | inl is ↦ absurd (let no : x.is_bucket ≡ false = shows.0 in let yes : x.is_bucket ≡ true = ap (λ (y : LeafElement). y.is_bucket) is ∙ bucket in cc)
        | inr later ↦ shows_inside after es shows.3 short.1 e later bucket
      ]
  shows_inside (with_bucket key sequence inside after) (x ∷ es) shows short e has bucket =
      elim (contains_cases x e es has) [
        | inl is ↦
            let (own, are, within) = shows.3 in
            subst (λ (y : LeafElement). IsShortBucket (start_of y.value)) is (inside, own, are, within, short.0)
        | inr later ↦ shows_inside after es shows.4 short.1 e later bucket
      ]
  shows_inside end (x ∷ es) shows short e has bucket = absurd shows
  shows_inside (with_value key value after) [] shows short e has bucket = absurd shows
  shows_inside (with_bucket key sequence inside after) [] shows short e has bucket = absurd shows

  shows_buckets : (tree : Tree) (es : List LeafElement) → Shows Own tree es → HoldsBuckets tree → (e : LeafElement) → Contains es e
      → e.is_bucket ≡ true
  shows_buckets end [] shows holds e has = absurd (contains_none e has)
  shows_buckets (with_bucket key sequence inside after) (x ∷ es) shows holds e has =
      elim (contains_cases x e es has) [
        | inl is ↦ ap (λ (y : LeafElement). y.is_bucket) (sym is) ∙ shows.0
        | inr later ↦ shows_buckets after es shows.4 holds e later
      ]
  shows_buckets end (x ∷ es) shows holds e has = absurd shows
  shows_buckets (with_value key value after) es shows holds e has = absurd holds
  shows_buckets (with_bucket key sequence inside after) [] shows holds e has = absurd shows

  bucket_short : (start : Start) (e : LeafElement) → IsShortBucket start → Own start e → e.is_bucket ≡ false → IsShort e.key
  bucket_short start e (tree, es, are, shows, short) is = shows_short tree es shows short e ((are.exact e).1 is)

  -- ---- what a way leads to

  -- a page of a bucket with short keys, or an inline bucket with short keys
  abbrev IsLed : Spot → Type 0
  IsLed (At_page s) = (root : ℕ) × (address : List ℕ) × IsShortBucket (Root_page root) × (leads nodes (Some root) address ≡ Some s.number)
  IsLed (At_inline host inner) = AllByRecursion IsShort inner.keys

  leads_on : (here : Option ℕ) (address : List ℕ) (i : ℕ) → leads nodes here (address ++ i ∷ []) ≡ child_at nodes (leads nodes here address) i
  leads_on here [] i = refl
  leads_on here (j ∷ address) i = leads_on (child_at nodes here j) address i

  leaf_is : (s : PageSpot) (view : PageView) (e : LeafElement) → page_at file meta s.number ≡ Some view → view.kind ≡ kind.Leaf
      → Contains view.leaves e
      → (root : ℕ) (address : List ℕ) → leads nodes (Some root) address ≡ Some s.number → Own (Root_page root) e
  leaf_is s view e at is has root address led = (address, s.number, led, (view, at, is, has))

  bucket_led : (host : ℕ) (e : LeafElement) (t : Spot) → IsBucketValue e.value → IsShortBucket (start_of e.value) → (b c : Bool)
      → (head_root e.value == 0) ≡ c
      → cond b (Some (cond c (At_inline host (inline_page e.value)) (At_page (root_spot (head_root e.value))))) None ≡ Some t → IsLed t
  bucket_led host e t passes bucket false c z led = absurd (none-some t led)
  bucket_led host e t passes bucket true true z led =
      let inner : IsShortBucket (Inline_page (inline_elements e.value)) = rw z at bucket in
      let root = eqb-true (head_root e.value) 0 z in
      subst IsLed (same_Some _ t led)
      (inner_short (inline_elements e.value)
      (λ x has. bucket_short (Inline_page (inline_elements e.value)) x inner has (flat_inline e.value x passes root has)))
  bucket_led host e t passes bucket true false z led = grind (arith, same_Some)

  leaf_step : (s : PageSpot) (view : PageView) (i : ℕ) (t : Spot) (next : Option Entry) → page_at file meta s.number ≡ Some view
      → view.kind ≡ kind.Leaf → IsLed (At_page s)
      → step_entry true s (slice_get (map leaf_entry view.leaves) i) next ≡ Some t → IsLed t
  leaf_step s view i t next at is (root, address, bucket, led) e =
      by (slice_get view.leaves i) refl (subst (λ (x : Option Entry). step_entry true s x next ≡ Some t) (slice_get-map leaf_entry view.leaves i) e)
    where
      of_bucket : (le : LeafElement) → Contains view.leaves le → Own (Root_page root) le → (b : Bool) → le.is_bucket ≡ b
          → bucket_spots s.number (leaf_entry le) ≡ Some t → IsLed t
      of_bucket le has own false ib e = absurd (none-some t (rw ib at e))
      of_bucket le has own true ib e =
          let (tree, es, are, shows, short) = bucket in
          bucket_led s.number le t (bucket_value file meta s.number view le at is has ib) (shows_inside tree es shows short le ((are.exact le).1 own) ib)
          true (head_root le.value == 0) refl (rw ib at e)

      by : (o : Option LeafElement) → slice_get view.leaves i ≡ o → step_entry true s (option_map leaf_entry o) next ≡ Some t → IsLed t
      by o found e = grind (arith, none-some, contains_at, of_bucket)

  branch_step : (s : PageSpot) (view : PageView) (i : ℕ) (t : Spot) (next : Option Entry) → node_at file meta s.number ≡ Ok (branch_node view)
      → IsLed (At_page s)
      → step_entry false s (slice_get (map branch_entry view.branches) i) next ≡ Some t → IsLed t
  branch_step s view i t next node (root, address, bucket, led) e = by (slice_get (map branch_entry view.branches) i) refl e
    where
      on : (x : Entry) → slice_get (map branch_entry view.branches) i ≡ Some x → leads nodes (Some root) (address ++ i ∷ []) ≡ Some x.child
      on x found =
          leads_on (Some root) address
          i ∙ (ap (λ (o : Option ℕ). child_at nodes o i) led ∙ (ap (λ (r : Result Node ℕ). child_in r i) node ∙ ap (child_of false) found))

      by : (o : Option Entry) → slice_get (map branch_entry view.branches) i ≡ o → step_entry false s o next ≡ Some t → IsLed t
      by None found e = absurd (none-some t e)
      by (Some x) found e = subst IsLed (same_Some (At_page (child_spot s x (upper_from next s.upper))) t e) (root, address ++ i ∷ [], bucket, on x found)

  step_led : (s : Spot) (i : ℕ) (t : Spot) → ((p : PageSpot) → s ≡ At_page p → (node : Node) × (nodes p.number ≡ Ok node)) → IsLed s
      → step nodes (Some s) i ≡ Some t → IsLed t
  step_led (At_inline host inner) i t good led e = absurd (none-some t e)
  step_led (At_page s) i t good led e = grind (arith, tree_page, leaf_step, branch_step)

  -- from a spot on
  ways_led : (here : Spot) (way : List ℕ) (t : Spot)
      → ((v : List ℕ) (p : PageSpot) → follow nodes (Some here) v ≡ Some (At_page p) → (node : Node) × (nodes p.number ≡ Ok node))
      → IsLed here → follow nodes (Some here) way ≡ Some t → IsLed t
  ways_led here [] t good led e = subst IsLed (same_Some here t e) led
  ways_led here (i ∷ way) t good led e =
      let (next, is) = follow_some nodes (step nodes (Some here) i) way t e in
      ways_led next way t (λ v p f. good (i ∷ v) p (ap (λ (o : Option Spot). follow nodes o v) is ∙ f))
      (step_led here i next (λ p same. good [] p (ap Some same)) led is) (ap (λ (o : Option Spot). follow nodes o way) (sym is) ∙ e)

-- ---- what is found

-- a branch of one child alone
abbrev lone : PageSpot → Result Node ℕ → List Finding
lone s (Ok node) = finding_if (has_one_child node) ONE_CHILD s.number
lone s (Err fault) = []

abbrev pub lone_at : Nodes → Option Spot → List Finding
lone_at at (Some (At_page s)) = lone s (at s.number)
lone_at at (Some (At_inline host inner)) = []
lone_at at None = []

inline_none : (host : ℕ) (inner : InlinePage) → list_any is_too_large inner.keys ≡ false → (inner.number == 0) ≡ true
    → inline_findings host inner ≡ []
inline_none host inner short number = rw (short, number) refl

first_alone : (first : List Finding) (b c d e : Bool) (w x y z number : ℕ) → b ≡ false → c ≡ false → d ≡ false → e ≡ false
    → first ++ (finding_if b w number ++ (finding_if c x number ++ (finding_if d y number ++ finding_if e z number))) ≡ first
first_alone first b c d e w x y z number b_not c_not d_not e_not = rw (b_not, c_not, d_not, e_not) (append-nil first)

-- the first key of an even page is that of its entry
module _ (file : List ℕ) (meta : Meta) where
  begins_so : (s : PageSpot) (node : Node) (leaves : ℕ) → node_at file meta s.number ≡ Ok node → IsEvenSpot (node_at file meta) leaves (At_page s)
      → has_other_first_key s.lower node ≡ false
  begins_so s node leaves at stands = by s.lower refl
    where
      by : (lower : Option Key) → s.lower ≡ lower → has_other_first_key lower node ≡ false
      by None same = refl
      by (Some key) same =
          let (own, is, begins) = stands.begins key same in
          let alike : own ≡ node = same_node own node (sym is ∙ at) in
          subst (λ (n : Node). begins_otherwise key (keys_of n.entries) ≡ false) alike begins

-- ---- of any tree: values in the root bucket, large keys, and branches of one child

if_found : (P : Finding → Type 0) (b : Bool) (code page : ℕ) (rest : List Finding) → (b ≡ true → P (finding code page)) → AllByRecursion P rest
    → AllByRecursion P (finding_if b code page ++ rest)
if_found P true code page rest is all = (is refl, all)
if_found P false code page rest is all = all

unless : (P : Finding → Type 0) (b : Bool) (code page : ℕ) → b ≡ false → AllByRecursion P (finding_if b code page)
unless P true code page is = absurd (cc)
unless P false code page is = tt

brought : (P : Finding → Type 0) (one in_root large other deep : Bool) (page : ℕ) → (one ≡ true → P (finding ONE_CHILD page))
    → P (finding ROOT_VALUE page) → P (finding LARGE_KEY page) → other ≡ false
    → deep ≡ false
    → AllByRecursion P (finding_if one ONE_CHILD page
    ++ (finding_if in_root ROOT_VALUE page ++ (finding_if large LARGE_KEY page ++ (finding_if other FIRST_KEY page ++ finding_if deep LEAF_DEPTH page))))
brought P one in_root large other deep page is_one is_root is_large other_not deep_not =
    if_found P one ONE_CHILD page _ is_one
    (if_found P in_root ROOT_VALUE page _ (λ found. is_root)
    (if_found P large LARGE_KEY page _ (λ found. is_large)
    (if_found P other FIRST_KEY page _ (λ found. absurd (cc)) (unless P deep LEAF_DEPTH page deep_not))))

-- each of these holds of what is found
module _ (file : List ℕ) (meta : Meta) (trees : HasSoundTrees file meta)
    (even : (way : List ℕ) (t : Spot) → reached (node_at file meta) meta.root way ≡ Some t
    → IsEvenSpot (node_at file meta) (leaves_at (node_at file meta) meta.root way (Some t)) t)
    (P : Finding → Type 0) (of_root : (page : ℕ) → P (finding ROOT_VALUE page)) (of_key : (page : ℕ) → P (finding LARGE_KEY page))
    (of_one : (way : List ℕ) (s : PageSpot) (view : PageView) → reached (node_at file meta) meta.root way ≡ Some (At_page s)
    → page_at file meta s.number ≡ Some view → view.kind ≡ kind.Branch
    → has_one_child (branch_node view) ≡ true → P (finding ONE_CHILD s.number)) where
  way_brought : (way : List ℕ) (t : Spot) → reached (node_at file meta) meta.root way ≡ Some t
      → AllByRecursion P (way_findings (node_at file meta) meta.root way)
  way_brought way (At_inline host inner) e =
      let number = eq-eqb inner.number 0 (even way (At_inline host inner) e).0 in
      subst (AllByRecursion P)
      (sym (ap (λ (o : Option Spot).
      spot_findings (node_at file meta) (is_in_root (node_at file meta) meta.root way) (leaves_at (node_at file meta) meta.root way o) o) e))
      (if_found P (list_any is_too_large inner.keys) LARGE_KEY host _ (λ found. of_key host)
      (unless P (not (inner.number == 0)) INLINE_NUMBER host (ap not number)))
  way_brought way (At_page s) e =
      let good = (trees.good way s e).1 in
      let in_root = is_in_root (node_at file meta) meta.root way in
      let leaves = leaves_at (node_at file meta) meta.root way (Some (At_page s)) in
      let stands = even way (At_page s) e in
      subst (AllByRecursion P) (sym (ap (λ (o : Option Spot). spot_findings (node_at file meta) in_root (leaves_at (node_at file meta) meta.root way o) o) e))
      (elim (tree_page file meta s.number good.0 good.1) [
        | a_leaf view at leaf shown ↦
            let depth = eq-eqb s.depth leaves (leaf_is_first file meta s (leaf_node view) leaves shown refl stands) in
            subst (λ (r : Result Node ℕ). AllByRecursion P (seen_findings in_root leaves s r)) (sym shown)
            (brought P false _ _ _ _ s.number (λ found. absurd (cc)) (of_root s.number) (of_key s.number)
            (begins_so file meta s (leaf_node view) leaves shown stands) (ap not depth))
        | a_branch view at branch shown ↦
            subst (λ (r : Result Node ℕ). AllByRecursion P (seen_findings in_root leaves s r)) (sym shown)
            (brought P (has_one_child (branch_node view)) _ false _ false s.number (of_one way s view e at branch) (of_root s.number) (of_key s.number)
            (begins_so file meta s (branch_node view) leaves shown stands) refl)
      ])

  all_brought : (ways : List (List ℕ)) → ((way : List ℕ) → Has ways way → (t : Spot) × (reached (node_at file meta) meta.root way ≡ Some t))
      → AllByRecursion P (flat_map (way_findings (node_at file meta) meta.root) ways)
  all_brought [] only = tt
  all_brought (way ∷ ways) only =
      let (t, e) = only way (inl refl) in
      all_append P (way_findings (node_at file meta) meta.root way) _ (way_brought way t e) (all_brought ways (λ v h. only v (inr h)))

  pub what_is_brought : (findings : List Finding) → AreBboltFindings (node_at file meta) meta.root findings → AllByRecursion P findings
  what_is_brought findings are = subst (AllByRecursion P) (sym are.all) (all_brought are.tour (λ way h. are.whole.only way h))

-- a branch of two children
pub not_lone : (view : PageView) → 2 ≤ length view.branches → has_one_child (branch_node view) ≡ false
not_lone view two = grind (arith, ne_eqb, length-map)

-- ---- of a tree with short keys, and buckets alone in its root bucket

module _ (file : List ℕ) (meta : Meta) (trees : HasSoundTrees file meta) (tree : Tree) (is : IsTreeOf (IsEntry file meta) (Root_page meta.root) tree)
    (short : HasShortKeys tree)
    (holds : HoldsBuckets tree)
    (even : (way : List ℕ) (t : Spot) → reached (node_at file meta) meta.root way ≡ Some t → IsEvenSpot (node_at file meta) (leaves_at (node_at file meta) meta.root way (Some t)) t) where
  abbrev HasTwoOnBranches : Type 0
  HasTwoOnBranches =
      (way : List ℕ) (s : PageSpot) (view : PageView) → reached (node_at file meta) meta.root way ≡ Some (At_page s) → page_at file meta s.number ≡ Some view
      → view.kind ≡ kind.Branch → 2 ≤ length view.branches

  root_led : IsLed file meta (At_page (root_spot meta.root))
  root_led = let (es, are, shows) = is in (meta.root, [], (tree, es, are, shows, short), refl)

  led_by : (way : List ℕ) (t : Spot) → reached (node_at file meta) meta.root way ≡ Some t → IsLed file meta t
  led_by way t e = ways_led file meta (At_page (root_spot meta.root)) way t (λ v p f. (trees.good v p f).1) root_led e

  -- an address of the root bucket leads to the page that it leads to as a way
  same_page : (way : List ℕ) (s : PageSpot) (n : ℕ) → reached (node_at file meta) meta.root way ≡ Some (At_page s)
      → leads (node_at file meta) (Some meta.root) way ≡ Some n → n ≡ s.number
  same_page way s n e l = grind (arith, leads_follow (node_at file meta) (root_spot meta.root) way n l)

  buckets_alone : (way : List ℕ) (s : PageSpot) (view : PageView) → reached (node_at file meta) meta.root way ≡ Some (At_page s)
      → page_at file meta s.number ≡ Some view
      → view.kind ≡ kind.Leaf → (o : Option ℕ) → leads (node_at file meta) (Some meta.root) way ≡ o
      → (is_some o && list_any is_value (map leaf_entry view.leaves)) ≡ false
  buckets_alone way s view e at leaf None l = refl
  buckets_alone way s view e at leaf (Some n) l =
      let (es, are, shows) = is in
      let led = l ∙ ap Some (same_page way s n e l) in
      buckets_any view.leaves
      (λ x has. shows_buckets file meta tree es shows holds x ((are.exact x).1 (leaf_is file meta s view x at leaf has meta.root way led)))

  leaf_only : (way : List ℕ) (s : PageSpot) (view : PageView) (leaves : ℕ) → reached (node_at file meta) meta.root way ≡ Some (At_page s)
      → page_at file meta s.number ≡ Some view
      → view.kind ≡ kind.Leaf → node_at file meta s.number ≡ Ok (leaf_node view) → IsEvenSpot (node_at file meta) leaves (At_page s)
      → node_findings (is_in_root (node_at file meta) meta.root way) leaves s (leaf_node view) ≡ []
  leaf_only way s view leaves e at leaf shown stands =
      let (root, address, bucket, led) = led_by way (At_page s) e in
      let large = large_any view.leaves (λ x has. bucket_short file meta (Root_page root) x bucket (leaf_is file meta s view x at leaf has root address led)) in
      let values = buckets_alone way s view e at leaf (leads (node_at file meta) (Some meta.root) way) refl in
      let depth = eq-eqb s.depth leaves (leaf_is_first file meta s (leaf_node view) leaves shown refl stands) in
      first_alone [] _ _ _ _ ROOT_VALUE LARGE_KEY FIRST_KEY LEAF_DEPTH s.number values large (begins_so file meta s (leaf_node view) leaves shown stands)
      (ap not depth)

  branch_only : (s : PageSpot) (view : PageView) (in_root : Bool) (leaves : ℕ) → node_at file meta s.number ≡ Ok (branch_node view)
      → IsEvenSpot (node_at file meta) leaves (At_page s)
      → node_findings in_root leaves s (branch_node view) ≡ finding_if (has_one_child (branch_node view)) ONE_CHILD s.number
  branch_only s view in_root leaves shown stands =
      let begins = begins_so file meta s (branch_node view) leaves shown stands in grind (arith, first_alone, and-false, begins)

  way_only : (way : List ℕ) (t : Spot) → reached (node_at file meta) meta.root way ≡ Some t
      → way_findings (node_at file meta) meta.root way ≡ lone_at (node_at file meta) (Some t)
  way_only way (At_inline host inner) e =
      let number = eq-eqb inner.number 0 (even way (At_inline host inner) e).0 in
      ap (λ (o : Option Spot).
      spot_findings (node_at file meta) (is_in_root (node_at file meta) meta.root way) (leaves_at (node_at file meta) meta.root way o) o) e
      ∙ inline_none host inner (short_any inner.keys (led_by way (At_inline host inner) e)) number
  way_only way (At_page s) e =
      let good = (trees.good way s e).1 in
      let in_root = is_in_root (node_at file meta) meta.root way in
      let leaves = leaves_at (node_at file meta) meta.root way (Some (At_page s)) in
      let stands = even way (At_page s) e in
      ap (λ (o : Option Spot). spot_findings (node_at file meta) in_root (leaves_at (node_at file meta) meta.root way o) o) e
      ∙ elim (tree_page file meta s.number good.0 good.1) [
        | a_leaf view at leaf shown ↦ ap (seen_findings in_root leaves s) shown ∙ leaf_only way s view leaves e at leaf shown stands ∙ sym (ap (lone s) shown)
        | a_branch view at branch shown ↦ ap (seen_findings in_root leaves s) shown ∙ branch_only s view in_root leaves shown stands ∙ sym (ap (lone s) shown)
      ]

  -- along all ways
  abbrev lone_along : List ℕ → List Finding
  lone_along way = lone_at (node_at file meta) (reached (node_at file meta) meta.root way)

  only_in : (ways : List (List ℕ)) → ((way : List ℕ) → Has ways way → (t : Spot) × (reached (node_at file meta) meta.root way ≡ Some t))
      → flat_map (way_findings (node_at file meta) meta.root) ways ≡ flat_map lone_along ways
  only_in [] only = refl
  only_in (way ∷ ways) only =
      let (t, e) = only way (inl refl) in
      ap₂ (λ (a b : List Finding). a ++ b) (way_only way t e ∙ ap (lone_at (node_at file meta)) (sym e)) (only_in ways (λ v h. only v (inr h)))

  -- what is found are branches of one child
  pub only_found : (findings : List Finding) (are : AreBboltFindings (node_at file meta) meta.root findings) → findings ≡ flat_map lone_along are.tour
  only_found findings are = are.all ∙ only_in are.tour (λ way h. are.whole.only way h)

  -- if each branch has two children, nothing is
  two_none : (s : PageSpot) (view : PageView) → 2 ≤ length view.branches → node_at file meta s.number ≡ Ok (branch_node view)
      → lone_at (node_at file meta) (Some (At_page s)) ≡ []
  two_none s view two shown = grind (arith, ne_eqb, length-map)

  none_at : HasTwoOnBranches → (way : List ℕ) (t : Spot) → reached (node_at file meta) meta.root way ≡ Some t
      → lone_at (node_at file meta) (Some t) ≡ []
  none_at twos way (At_inline host inner) e = refl
  none_at twos way (At_page s) e =
      let good = (trees.good way s e).1 in
      elim (tree_page file meta s.number good.0 good.1) [
        | a_leaf view at leaf shown ↦ ap (lone s) shown
        | a_branch view at branch shown ↦ two_none s view (twos way s view e at branch) shown
      ]

  none_in : HasTwoOnBranches → (ways : List (List ℕ))
      → ((way : List ℕ) → Has ways way → (t : Spot) × (reached (node_at file meta) meta.root way ≡ Some t)) → flat_map lone_along ways ≡ []
  none_in twos [] only = refl
  none_in twos (way ∷ ways) only =
      let (t, e) = only way (inl refl) in
      ap₂ (λ (a b : List Finding). a ++ b) (ap (lone_at (node_at file meta)) e ∙ none_at twos way t e) (none_in twos ways (λ v h. only v (inr h)))

  pub none_found : HasTwoOnBranches → (findings : List Finding) → AreBboltFindings (node_at file meta) meta.root findings → findings ≡ []
  none_found twos findings are = only_found findings are ∙ none_in twos are.tour (λ way h. are.whole.only way h)

-- ---- and all of them are

lone_code : (s : PageSpot) (r : Result Node ℕ) → AllByRecursion IsOneChild (lone s r)
lone_code s (Err fault) = tt
lone_code s (Ok node) = by (has_one_child node)
  where
    by : (b : Bool) → AllByRecursion IsOneChild (finding_if b ONE_CHILD s.number)
    by true = (refl, tt)
    by false = tt

lone_codes : (nodes : Nodes) (o : Option Spot) → AllByRecursion IsOneChild (lone_at nodes o)
lone_codes nodes o = grind (arith, lone_code)

pub all_lone : (at : Nodes) (reach : List ℕ → Option Spot) (ways : List (List ℕ))
    → AllByRecursion IsOneChild (flat_map (λ (way : List ℕ). lone_at at (reach way)) ways)
all_lone at reach [] = tt
all_lone at reach (way ∷ ways) = all_append IsOneChild (lone_at at (reach way)) _ (lone_codes at (reach way)) (all_lone at reach ways)
