-- In a recovered listing all that etcd can't read comes after the bucket or an entry in it.
use Rattle.std.proofs.Common.{◌≡◌, ◌∙◌, ◌⊎◌, ◌||◌, inl, inr, Bool, true, false, List, [], ◌∷◌, ap, cond, not, refl, subst, sym}
use Rattle.std.proofs.Math.Bool.{or-true}
use Rattle.std.specs.{List.Contains, declared.cmp.Ordering.TheVariants.Less}
use Rattle.bolt_lemmas.proofs.Exports.{asymmetric, contains_cases, contains_head, contains_tail}
use Rattle.bolt_lemmas.specs.Order.{Rises}
use Rattle.bolt_tree.proofs.Exports.{before_longer, path_total}
use Rattle.bolt_tree.specs.{Entries.Item, Listing.Member, Listing.member_cmp, Merges.HaveParents, Paths.Path, Paths.path_cmp}
use Rattle.bolt_etcd.specs.Store.BucketNames.{key_bucket}
use Rattle.bolt_repair.specs.{Readable.is_readable, Readable.readable, Repairs.store_path, StorePaths.is_near, Stripped.strip}
use Rattle.bolt_repair.proofs.ReadablePaths.{between, has_store, near_after, near_if, near_there, unreadable_in}

-- after the bucket
abbrev AreBeyond : List Member → Type 0
AreBeyond ms = (m : Member) → Contains ms m → path_cmp store_path m.0 ≡ Less

-- the bucket or an entry in it comes before each that etcd can't read
abbrev FollowNear : Bool → List Member → Type 0
FollowNear near ms = (m : Member) → Contains ms m → is_readable m.0 m.1 ≡ false → (near ≡ true) ⊎ ((item : Item) × Contains ms (store_path, item))

near_between : (x : Member) (path : Path) → path_cmp store_path x.0 ≡ Less → path_cmp x.0 (key_bucket ∷ path) ≡ Less → is_readable x.0 x.1 ≡ true
    → is_near x.0 ≡ true
near_between x path after before is =
    let (tail, at) = between x.0 path after before in
    ap is_near at ∙ near_if tail x.1 (sym (ap (λ (p : Path). is_readable p x.1) at) ∙ is)

module _ (near : Bool) (x : Member) (ms : List Member) (rises : Rises member_cmp (x ∷ ms)) (beyond : near ≡ true → AreBeyond (x ∷ ms))
    (follow : FollowNear near (x ∷ ms)) where
  beyond_next : is_near x.0 ≡ true → AreBeyond ms
  beyond_next is m has = elim (near_after x.0 is) [
    | inl at ↦ subst (λ (p : Path). path_cmp p m.0 ≡ Less) at (rises.0 m has)
    | inr after ↦ path_total.trans store_path x.0 m.0 after (rises.0 m has)
  ]

  follow_next : is_readable x.0 x.1 ≡ true → FollowNear (is_near x.0) ms
  follow_next is m has unread = elim (follow m (contains_tail x m ms has) unread) [
    | inl near_before ↦
        let (key, rest, at) = unreadable_in m.0 m.1 unread in
        inl (near_between x _ (beyond near_before x (contains_head x ms)) (subst (λ (p : Path). path_cmp x.0 p ≡ Less) at (rises.0 m has)) is)
    | inr (item, there) ↦ elim (contains_cases x (store_path, item) ms there) [
      | inl here ↦ inl (near_there x.0 (ap (λ (y : Member). y.0) here))
      | inr later ↦ inr (item, later)
    ]
  ]

  is_near_before : is_readable x.0 x.1 ≡ false → near ≡ true
  is_near_before unread = elim (follow x (contains_head x ms) unread) [
    | inl is ↦ is
    | inr (item, there) ↦
        let (key, rest, at) = unreadable_in x.0 x.1 unread in
        elim (contains_cases x (store_path, item) ms there) [
          | inl here ↦ let wrong : store_path ≡ key_bucket ∷ key ∷ rest = sym (ap (λ (y : Member). y.0) here) ∙ at in cc
          | inr later ↦
              absurd (asymmetric path_total store_path x.0 (subst (λ (p : Path). path_cmp store_path p ≡ Less) (sym at) (before_longer store_path key rest))
              (rises.0 (store_path, item) later))
        ]
  ]

strip_same : (near : Bool) (ms : List Member) → Rises member_cmp ms → (near ≡ true → AreBeyond ms) → FollowNear near ms → strip near ms ≡ readable ms
strip_same near [] rises beyond follow = refl
strip_same near (x ∷ ms) rises beyond follow =
    by (is_readable x.0 x.1) refl (strip_same (is_near x.0) ms rises.1 (beyond_next near x ms rises beyond follow))
    (λ is. strip_same true ms rises.1 (λ f m has. beyond is m (contains_tail x m ms has)) (λ m has unread. inl refl))
  where
    by : (b : Bool) → is_readable x.0 x.1 ≡ b → (FollowNear (is_near x.0) ms → strip (is_near x.0) ms ≡ readable ms)
        → (near ≡ true → strip true ms ≡ readable ms) → strip near (x ∷ ms) ≡ readable (x ∷ ms)
    by true is again passed =
        ap (λ (b : Bool). cond (not near || b) (x ∷ strip (is_near x.0) ms) (strip true ms)) is
        ∙ ap (λ (b : Bool). cond b (x ∷ strip (is_near x.0) ms) (strip true ms)) (or-true (not near))
        ∙ ap (λ (l : List Member). x ∷ l) (again (follow_next near x ms rises beyond follow is))
        ∙ sym (ap (λ (b : Bool). cond b (x ∷ readable ms) (readable ms)) is)
    by false is again passed =
        let before = is_near_before near x ms rises beyond follow is in
        ap (λ (b : Bool). cond (not near || b) (x ∷ strip (is_near x.0) ms) (strip true ms)) is
        ∙ ap (λ (b : Bool). cond (not b || false) (x ∷ strip (is_near x.0) ms) (strip true ms)) before
        ∙ passed before
        ∙ sym (ap (λ (b : Bool). cond b (x ∷ readable ms) (readable ms)) is)

pub strip_listing : (listing : List Member) → Rises member_cmp listing → HaveParents listing listing → strip false listing ≡ readable listing
strip_listing listing rises parents = strip_same false listing rises (λ f. cc) (λ m has unread. inr (has_store listing parents m.0 m.1 has unread))
