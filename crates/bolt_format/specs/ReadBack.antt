-- What is read of headers, and of the head of a bucket's value, after they were written.
use Rattle.std.specs.Prelude.{◌≡◌, ◌<◌, ◌^◌, ℕ, ◌+◌, ◌++◌, Bool, List, None, Some, drop}
use Rattle.bolt_format.specs.Elements.{branch_child, branch_key_length, branch_key_start, element_at, head_fault, head_root, head_sequence}
use Rattle.bolt_format.specs.Elements.{inline_bytes, is_bucket_element, leaf_flags, leaf_key_length, leaf_key_start, leaf_value_length}
use Rattle.bolt_format.specs.Headers.{count_field, flags_field, flags_of, id_field, kind_of, overflow_field}
use Rattle.bolt_format.specs.{Metas.IsPageSize, Encoded.branch_header, Encoded.leaf_flag, Encoded.leaf_header, declared.header.Kind.Kind}
use Rattle.bolt_format.specs.{declared.meta.Meta.Meta}

-- the header of a page, and numbers that have room in it
pub record IsHeader (bytes : List ℕ) (number : ℕ) (is : Kind) (n more : ℕ) : Type 0 where
  pub id : id_field bytes ≡ number
  pub flags : flags_field bytes ≡ flags_of is
  pub kind : kind_of (flags_field bytes) ≡ Some is
  pub count : count_field bytes ≡ n
  pub overflow : overflow_field bytes ≡ more

pub record IsHeaderFit (number n more : ℕ) : Type 0 where
  pub id : number < 2 ^ 64
  pub count : n < 2 ^ 16
  pub overflow : more < 2 ^ 32

-- the header of branch element i
pub record IsBranchHeader (bytes : List ℕ) (i pos n leads_to : ℕ) : Type 0 where
  pub start : branch_key_start bytes i ≡ element_at i + pos
  pub key : branch_key_length bytes i ≡ n
  pub child : branch_child bytes i ≡ leads_to

pub record IsBranchHeaderFit (pos n leads_to : ℕ) : Type 0 where
  pub start : pos < 2 ^ 32
  pub key : n < 2 ^ 32
  pub child : leads_to < 2 ^ 64

-- the header of leaf element i
pub record IsLeafHeader (bytes : List ℕ) (i : ℕ) (is_bucket : Bool) (pos n m : ℕ) : Type 0 where
  pub flags : leaf_flags bytes i ≡ leaf_flag is_bucket
  pub bucket : is_bucket_element bytes i ≡ is_bucket
  pub start : leaf_key_start bytes i ≡ element_at i + pos
  pub key : leaf_key_length bytes i ≡ n
  pub value : leaf_value_length bytes i ≡ m

pub record IsLeafHeaderFit (pos n m : ℕ) : Type 0 where
  pub start : pos < 2 ^ 32
  pub key : n < 2 ^ 32
  pub value : m < 2 ^ 32

-- the header of branch element i, if it was written, reads back, and the next element's place follows
abbrev pub BranchReadsBack : List ℕ → (i pos n leads_to : ℕ) → List ℕ → Type 0
BranchReadsBack bytes i pos n leads_to rest =
    drop (element_at i) bytes ≡ branch_header pos n leads_to ++ rest → IsBranchHeaderFit pos n leads_to
    → IsBranchHeader bytes i pos n leads_to × (drop (element_at (i + 1)) bytes ≡ rest)

-- the header of leaf element i, if it was written, reads back, and the next element's place follows
abbrev pub LeafReadsBack : List ℕ → ℕ → Bool → (pos n m : ℕ) → List ℕ → Type 0
LeafReadsBack bytes i is_bucket pos n m rest =
    drop (element_at i) bytes ≡ leaf_header is_bucket pos n m ++ rest → IsLeafHeaderFit pos n m
    → IsLeafHeader bytes i is_bucket pos n m × (drop (element_at (i + 1)) bytes ≡ rest)

-- the head of a bucket's value, and what follows it
pub record IsHead (value : List ℕ) (page number : ℕ) (rest : List ℕ) : Type 0 where
  pub root : head_root value ≡ page
  pub sequence : head_sequence value ≡ number
  pub inline : inline_bytes value ≡ rest
  pub passes : head_fault value ≡ None

-- a meta with an accepted page size, whose numbers have room in a record
pub record IsMetaFit (meta : Meta) : Type 0 where
  pub size : IsPageSize meta.page_size
  pub root : meta.root < 2 ^ 64
  pub sequence : meta.root_sequence < 2 ^ 64
  pub freelist : meta.freelist < 2 ^ 64
  pub high_water : meta.high_water < 2 ^ 64
  pub txid : meta.txid < 2 ^ 64
