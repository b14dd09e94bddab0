-- The lines of the buckets among entries, entry by entry.
use Rattle.std.proofs.Common.{◌≡◌, ◌∙◌, ℕ, Bool, true, false, List, [], ◌∷◌, ◌++◌, None, Some, ap, append-nil, arith, cond, filter, inl, inr, length}
use Rattle.std.proofs.Common.{length-append, map, refl, subst, sym}
use Rattle.std.specs.Prelude.{◌≢◌}
use Rattle.std.proofs.lemmas.Grind.{flat_map-append}
use Rattle.bolt_report.proofs.Words.{AllByRecursion, AreSized, bucket_checked, bucket_start, bytes_of, Checked, Form, IsStatsOf, Key, LeafElement}
use Rattle.bolt_report.proofs.Words.{Meta, cases_Bool, json_text, line, size_json, meta_of, Sized, sizes_text, Start, start_of, Stats}
use Rattle.bolt_tree.specs.{Lookups.IsBucketOf, declared.bucket.Bucket.Bucket}
use Rattle.bolt_report.specs.SizeLines.{size_columns, size_line, size_text}
use Rattle.bolt_text.specs.Forms.{is_json, item_text, json_in}
use Rattle.bolt_stats.specs.StatsOf.{AreStats}

abbrev pub buckets_of : List LeafElement → List LeafElement
buckets_of entries = filter (λ (e : LeafElement). e.is_bucket) entries

pub by_kind : (e : LeafElement) (entries : List LeafElement) (b : Bool) → e.is_bucket ≡ b
    → buckets_of (e ∷ entries) ≡ cond b (e ∷ buckets_of entries) (buckets_of entries)
by_kind e entries b is = ap (λ (b : Bool). cond b (e ∷ buckets_of entries) (buckets_of entries)) is

module _ (file : List ℕ) (meta : Meta) where
  abbrev pub HasStats : Sized → Type 0
  HasStats s = IsStatsOf file meta (start_of s.entry.value) s.stats

  -- ---- the buckets of one entry, and of those after it

  pub record Cut (e : LeafElement) (entries : List LeafElement) (sized : List Sized) : Type 0 where
    pub own : List Sized
    pub rest : List Sized
    pub whole : sized ≡ own ++ rest
    pub first : AreSized file meta (e ∷ []) own
    pub later : AreSized file meta entries rest

  cut_by : (e : LeafElement) (entries : List LeafElement) (b : Bool) → e.is_bucket ≡ b → (sized : List Sized)
      → map (λ (s : Sized). s.entry) sized ≡ cond b (e ∷ buckets_of entries) (buckets_of entries) → AllByRecursion HasStats sized → Cut e entries sized
  cut_by e entries false is sized same stats = grind (arith, by_kind)
  cut_by e entries true is [] same stats = cc
  cut_by e entries true is (s ∷ sized) same stats =
      let head : s.entry ≡ e = cc in
      let tail : map (λ (s : Sized). s.entry) sized ≡ buckets_of entries = cc in
      record {
        own = s ∷ [];
        rest = sized;
        whole = refl;
        first = record { buckets = ap (λ (x : LeafElement). x ∷ []) head ∙ sym (by_kind e [] true is); stats = (stats.0, tt) };
        later = record { buckets = tail; stats = stats.1 };
      }

  pub cut : (e : LeafElement) (entries : List LeafElement) (sized : List Sized) → AreSized file meta (e ∷ entries) sized → Cut e entries sized
  cut e entries sized are = cut_by e entries e.is_bucket refl sized are.buckets are.stats

-- ---- the entry that a cursor is on

-- the line of its bucket
pub bucket_line : (inner : Bucket) (checked : Checked) (form : Form) (name : Key) (e : LeafElement) (sized : List Sized)
    → bucket_checked inner ≡ checked → IsBucketOf (Some e) (Some inner)
    → name ≡ e.key → AreSized (bytes_of checked) (meta_of checked) (e ∷ []) sized
    → (own : Stats) × AreStats inner own × (size_text form own name ≡ sizes_text form sized)
bucket_line inner checked form name e sized same is named are = by_sized sized (are.buckets ∙ by_kind e [] true is.0) are.stats
  where
    by_sized : (sized : List Sized) → map (λ (s : Sized). s.entry) sized ≡ e ∷ []
        → AllByRecursion (HasStats (bytes_of checked) (meta_of checked)) sized
        → (own : Stats) × AreStats inner own × (size_text form own name ≡ sizes_text form sized)
    by_sized [] one stats = cc
    by_sized (s ∷ t ∷ sized) one stats = cc
    by_sized (s ∷ []) one stats =
        let head : s.entry ≡ e = cc in
        let start : start_of s.entry.value ≡ bucket_start inner = ap (λ (x : LeafElement). start_of x.value) head ∙ sym is.1 in
        let key : name ≡ s.entry.key = named ∙ ap (λ (x : LeafElement). x.key) (sym head) in (
          s.stats,
          subst (λ (c : Checked). IsStatsOf (bytes_of c) (meta_of c) (bucket_start inner) s.stats) (sym same)
              (subst (λ (t : Start). IsStatsOf (bytes_of checked) (meta_of checked) t s.stats) start stats.0),
          rw key (sym (append-nil (size_line form s))),
        )

-- the text of what is left is the text of its first entry, and then the rest
pub cut_text : (form : Form) (left own rest : List Sized) → left ≡ own ++ rest → sizes_text form left ≡ sizes_text form own ++ sizes_text form rest
cut_text form left own rest is = ap (sizes_text form) is ∙ flat_map-append (size_line form) own rest

-- no bucket is left
pub no_line : (file : List ℕ) (meta : Meta) (form : Form) (entries : List LeafElement) (sized : List Sized) → entries ≡ []
    → AreSized file meta entries sized → sizes_text form sized ≡ []
no_line file meta form entries [] none are = refl
no_line file meta form entries (s ∷ sized) none are =
    absurd (let c : s.entry ∷ map (λ (s : Sized). s.entry) sized ≡ [] = are.buckets ∙ ap buckets_of none in cc)

-- a value has no line
pub value_line : (file : List ℕ) (meta : Meta) (form : Form) (e : LeafElement) (sized : List Sized) → IsBucketOf (Some e) None
    → AreSized file meta (e ∷ []) sized → sizes_text form sized ≡ []
value_line file meta form e sized plain are =
    no_line file meta form [] sized refl (record { buckets = are.buckets ∙ by_kind e [] false plain; stats = are.stats })

-- ---- each line ends with a line feed

ends : (first text : List ℕ) → first ++ line text ≢ []
ends first text none =
    let long = ap length none in
    let whole = length-append first (line text) in
    let last = length-append text (10 ∷ []) in
    absurd (omega (arith, long, whole, last))

pub size_some : (form : Form) (stats : Stats) (name : List ℕ) → size_text form stats name ≢ []
size_some form stats name =
    elim (cases_Bool (is_json form)) [
      | inl json ↦ rw json (ends [] (json_text (size_json stats (json_in form name))))
      | inr plain ↦ rw plain (ends (size_columns stats) (item_text form name))
    ]
