-- The elements of branch and leaf pages and their tests, over the bytes from a page's first one to the end of its span (of an inline
-- page: to the end of its value): docs/FORMAT.md, "Elements" and "The tests of a page".
use Rattle.std.specs.Prelude.{◌≡◌, ◌==◌, ℕ, zero, suc, ◌+◌, ◌*◌, Bool, not, ◌||◌, nat_lt, List, map, length, drop, Option, Some, None, if◌then◌else◌}
use Rattle.std.specs.Prelude.{is_some, slice_range}
use Rattle.std.specs.List.{list_any, range_with_len}
use Rattle.bolt_format.specs.{Bytes.number_at, Headers.count_field, Headers.flags_field, Headers.flags_of, Headers.id_field}
use Rattle.bolt_format.specs.declared.page_fault.TheConstants.PageFault.{ELEMENT_CUT, DATA_ORDER, KEY_LENGTH, VALUE_LENGTH, LEAF_FLAGS, BUCKET_SHORT}
use Rattle.bolt_format.specs.declared.page_fault.TheConstants.PageFault.{INLINE_PAGE, INLINE_NESTED}
use Rattle.bolt_format.specs.declared.header.Kind.TheVariants as kind

-- the first fault of two
abbrev pub first_of : Option ℕ → Option ℕ → Option ℕ
first_of (Some fault) next = Some fault
first_of None next = next

-- where element i stands, and so where a table of i elements ends
abbrev pub element_at : ℕ → ℕ
element_at i = 16 + 16 * i

-- A branch element leads to a child by the first key under it.
pub record BranchElement : Type 0 where
  pub key : List ℕ
  pub child : ℕ

-- A leaf element is a value or a bucket under a key.
pub record LeafElement : Type 0 where
  pub key : List ℕ
  pub value : List ℕ
  pub is_bucket : Bool

-- branch element i: where its key lies
unfoldable pub branch_key_start : List ℕ → ℕ → ℕ
branch_key_start bytes i = element_at i + number_at bytes (element_at i) 4

unfoldable pub branch_key_length : List ℕ → ℕ → ℕ
branch_key_length bytes i = number_at bytes (element_at i + 4) 4

abbrev pub branch_end : List ℕ → ℕ → ℕ
branch_end bytes i = branch_key_start bytes i + branch_key_length bytes i

unfoldable pub branch_child : List ℕ → ℕ → ℕ
branch_child bytes i = number_at bytes (element_at i + 8) 8

abbrev pub branch_element : List ℕ → ℕ → BranchElement
branch_element bytes i = record {
  key = slice_range bytes (branch_key_start bytes i) (branch_end bytes i);
  child = branch_child bytes i;
}

-- leaf element i: its flags, and where its key and the value after it are
unfoldable pub leaf_flags : List ℕ → ℕ → ℕ
leaf_flags bytes i = number_at bytes (element_at i) 4

unfoldable pub leaf_key_start : List ℕ → ℕ → ℕ
leaf_key_start bytes i = element_at i + number_at bytes (element_at i + 4) 4

unfoldable pub leaf_key_length : List ℕ → ℕ → ℕ
leaf_key_length bytes i = number_at bytes (element_at i + 8) 4

unfoldable pub leaf_value_length : List ℕ → ℕ → ℕ
leaf_value_length bytes i = number_at bytes (element_at i + 12) 4

abbrev pub leaf_value_start : List ℕ → ℕ → ℕ
leaf_value_start bytes i = leaf_key_start bytes i + leaf_key_length bytes i

abbrev pub leaf_end : List ℕ → ℕ → ℕ
leaf_end bytes i = leaf_value_start bytes i + leaf_value_length bytes i

-- flags are 1 for a bucket and 0 for a value
abbrev pub is_bucket_element : List ℕ → ℕ → Bool
is_bucket_element bytes i = leaf_flags bytes i == 1

abbrev pub leaf_value : List ℕ → ℕ → List ℕ
leaf_value bytes i = slice_range bytes (leaf_value_start bytes i) (leaf_end bytes i)

abbrev pub leaf_element : List ℕ → ℕ → LeafElement
leaf_element bytes i = record {
  key = slice_range bytes (leaf_key_start bytes i) (leaf_value_start bytes i);
  value = leaf_value bytes i;
  is_bucket = is_bucket_element bytes i;
}

-- the elements of a page with this many
unfoldable pub branch_elements : List ℕ → ℕ → List BranchElement
branch_elements bytes count = map (branch_element bytes) (range_with_len 0 count)

unfoldable pub leaf_elements : List ℕ → ℕ → List LeafElement
leaf_elements bytes count = map (leaf_element bytes) (range_with_len 0 count)

-- the table of this many elements is within the bytes
abbrev pub table_fault : List ℕ → ℕ → Option ℕ
table_fault bytes count = if nat_lt (length bytes) (element_at count) then Some ELEMENT_CUT else None

-- a key has from 1 to 2^30 bytes
abbrev pub key_length_fault : ℕ → Option ℕ
key_length_fault n = if n == 0 || nat_lt 0x40000000 n then Some KEY_LENGTH else None

-- a value has at most 2^31 - 2 bytes
abbrev pub value_length_fault : ℕ → Option ℕ
value_length_fault n = if nat_lt 0x7FFFFFFE n then Some VALUE_LENGTH else None

-- the flags of a leaf element are 0 or 1
abbrev pub leaf_flags_fault : ℕ → Option ℕ
leaf_flags_fault flags = if flags == 0 || flags == 1 then None else Some LEAF_FLAGS

-- the tests of data from start to end; the data of the preceding elements ends at `free`
abbrev pub data_fault : List ℕ → (free start end : ℕ) → Option ℕ
data_fault bytes free start end =
    if nat_lt start free then Some DATA_ORDER
    else (if nat_lt (length bytes) end then Some ELEMENT_CUT
    else None)

-- the tests of branch element i
unfoldable pub branch_fault : List ℕ → ℕ → ℕ → Option ℕ
branch_fault bytes free i =
    first_of (key_length_fault (branch_key_length bytes i)) (data_fault bytes free (branch_key_start bytes i) (branch_end bytes i))

-- the tests of leaf element i, without those of a bucket's value
unfoldable pub plain_leaf_fault : List ℕ → ℕ → ℕ → Option ℕ
plain_leaf_fault bytes free i =
    first_of (leaf_flags_fault (leaf_flags bytes i))
    (first_of (key_length_fault (leaf_key_length bytes i))
    (first_of (value_length_fault (leaf_value_length bytes i))
    (data_fault bytes free (leaf_key_start bytes i) (leaf_end bytes i))))

-- all tests of leaf element i; `bucket_fault` tests the value of a bucket
abbrev pub leaf_fault : (List ℕ → Option ℕ) → List ℕ → ℕ → ℕ → Option ℕ
leaf_fault bucket_fault bytes free i =
    first_of (plain_leaf_fault bytes free i) (if is_bucket_element bytes i then bucket_fault (leaf_value bytes i) else None)

-- the first fault of n elements from i on, by the test of one and where its data ends
abbrev pub faults_from : (ℕ → ℕ → Option ℕ) → (ℕ → ℕ) → (free i n : ℕ) → Option ℕ
faults_from fault end free i zero = None
faults_from fault end free i (suc n) = first_of (fault free i) (faults_from fault end (end i) (suc i) n)

-- the first fault of a page with this many elements: of their table, and then of each
abbrev pub elements_fault : (ℕ → ℕ → Option ℕ) → (ℕ → ℕ) → List ℕ → ℕ → Option ℕ
elements_fault fault end bytes count = first_of (table_fault bytes count) (faults_from fault end (element_at count) 0 count)

unfoldable pub branches_fault : List ℕ → ℕ → Option ℕ
branches_fault bytes count = elements_fault (branch_fault bytes) (branch_end bytes) bytes count

unfoldable pub leaves_fault : (List ℕ → Option ℕ) → List ℕ → ℕ → Option ℕ
leaves_fault bucket_fault bytes count = elements_fault (leaf_fault bucket_fault bytes) (leaf_end bytes) bytes count

-- A bucket's value begins with the number of its root page and its sequence.
abbrev pub head_root : List ℕ → ℕ
head_root value = number_at value 0 8

abbrev pub head_sequence : List ℕ → ℕ
head_sequence value = number_at value 8 8

abbrev pub head_fault : List ℕ → Option ℕ
head_fault value = if nat_lt (length value) 16 then Some BUCKET_SHORT else None

-- The page in the value of a bucket whose root is 0 has the header of a leaf, and its elements are good.
abbrev pub inline_page_fault : List ℕ → Option ℕ
inline_page_fault bytes =
    if nat_lt (length bytes) 16 || (not (flags_field bytes == flags_of kind.Leaf) || is_some (leaves_fault head_fault bytes (count_field bytes)))
    then Some INLINE_PAGE
    else None

abbrev pub page_has_bucket : List ℕ → ℕ → Bool
page_has_bucket bytes count = list_any (is_bucket_element bytes) (range_with_len 0 count)

-- then none of its elements is a bucket
unfoldable pub inline_fault : List ℕ → Option ℕ
inline_fault bytes =
    first_of (inline_page_fault bytes)
    (if page_has_bucket bytes (count_field bytes) then Some INLINE_NESTED else None)

-- what follows a bucket's root page and sequence
abbrev pub inline_bytes : List ℕ → List ℕ
inline_bytes value = drop 16 value

-- the tests of a bucket's value
unfoldable pub value_fault : List ℕ → Option ℕ
value_fault value = first_of (head_fault value) (if head_root value == 0 then inline_fault (inline_bytes value) else None)

abbrev pub IsBucketValue : List ℕ → Type 0
IsBucketValue value = value_fault value ≡ None

-- the elements of an inline bucket
abbrev pub inline_elements : List ℕ → List LeafElement
inline_elements value = leaf_elements (inline_bytes value) (count_field (inline_bytes value))

-- the page number in the header of its page
unfoldable pub inline_number : List ℕ → ℕ
inline_number value = id_field (inline_bytes value)
