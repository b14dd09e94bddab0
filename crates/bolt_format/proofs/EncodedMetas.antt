-- A meta page that was written is valid.
use Rattle.std.proofs.Common.{IsTrue, ◌≡◌, ◌∙◌, ◌⊎◌, ℕ, ◌+◌, ◌*◌, ◌^◌, ◌<◌, ◌≤◌, List, [], ◌∷◌, ◌++◌, length, drop, take, refl, sym, ap, subst, inl}
use Rattle.std.proofs.Common.{inr, arith, append_assoc, bit_xor}
use Rattle.std.proofs.{lemmas.Bool.eq-eqb, lemmas.Bool.le-leb, lemmas.List.length-append, Math.Nat.mod-lt}
use Rattle.bolt_format.specs.{BboltMetas.is_meta_header, Bytes.fnv_from, Bytes.fnv_of, Bytes.fnv_step, Metas.IsActive, Metas.IsMeta, Metas.IsPageSize}
use Rattle.bolt_format.specs.{Metas.magic, Metas.meta_fields, Metas.size_at, Metas.version}
use Rattle.bolt_format.specs.{ReadBack.IsMetaFit, Encoded.header_bytes, Encoded.meta_bytes, Encoded.meta_record, Encoded.number_bytes}
use Rattle.bolt_format.specs.{declared.meta.Meta.Meta, declared.meta.Slot.TheVariants.One}
use Rattle.bolt_format.specs.declared.header.Kind.TheVariants as kind
use Rattle.bolt_format.proofs.MetaLemmas.{newer_one}
use Rattle.bolt_format.proofs.NumberLemmas.{length-number_bytes, number_next, number_read, part_next, part_read, part_within}
use Rattle.bolt_format.proofs.{PageSizes.size_bounds, EncodedHeaders.header_written, EncodedHeaders.length-header_bytes}

-- a checksum has 64 bits
fnv_step-small : (hash byte : ℕ) → fnv_step hash byte < 2 ^ 64
unfolding fnv_step
fnv_step-small hash byte = mod-lt (bit_xor hash byte * 0x100000001b3) (omega arith)

fnv_from-small : (hash : ℕ) (bytes : List ℕ) → hash < 2 ^ 64 → fnv_from hash bytes < 2 ^ 64
fnv_from-small hash [] h = h
fnv_from-small hash (byte ∷ bytes) h = fnv_from-small (fnv_step hash byte) bytes (fnv_step-small hash byte)

fnv_of-small : (bytes : List ℕ) → fnv_of bytes < 256 ^ 8
unfolding fnv_of
fnv_of-small bytes = fnv_from-small 0xcbf29ce484222325 bytes (omega arith)

length-meta_record : (meta : Meta) → length (meta_record meta) ≡ 56
unfolding meta_record
length-meta_record meta = grind (arith, length-number_bytes, length-append)

pub length-meta_bytes : (number : ℕ) (meta : Meta) → length (meta_bytes number meta) ≡ 80
unfolding meta_bytes
length-meta_bytes number meta = grind (arith, length-header_bytes, length-meta_record, length-number_bytes, length-append)

same_meta : (a b : Meta) → a.page_size ≡ b.page_size → a.root ≡ b.root → a.root_sequence ≡ b.root_sequence → a.freelist ≡ b.freelist
    → a.high_water ≡ b.high_water
    → a.txid ≡ b.txid → a ≡ b
same_meta a b p q r s t u = grind arith

pub meta_written : (file rest : List ℕ) (at number : ℕ) (meta : Meta) → drop at file ≡ meta_bytes number meta ++ rest
    → IsMetaFit meta → (at ≡ 0) ⊎ (at ≡ meta.page_size) → at ≤ length file → IsMeta file at meta
unfolding meta_bytes meta_record
meta_written file rest at number meta h fit place within =
    let written : List ℕ = meta_record meta in
    let header : List ℕ = header_bytes number kind.Meta 0 0 in
    let sum : ℕ = fnv_of written in
    let bounds = size_bounds meta.page_size fit.size in
    let e : drop at file ≡ header ++ (written ++ (number_bytes 8 sum ++ rest)) = h ∙ simp append_assoc in
    let hl = length-header_bytes number kind.Meta 0 0 in
    let rl = length-meta_record meta in
    let sl = length-number_bytes 8 sum in
    let r : drop (at + 16) file ≡ written ++ (number_bytes 8 sum ++ rest) = part_next file header _ at (at + 16) e (omega arith) in
    let d0 : drop (at + 16) file
    ≡ number_bytes 4 magic ++ (number_bytes 4 version ++ (number_bytes 4 meta.page_size ++ (number_bytes 4 0 ++ (number_bytes 8 meta.root
    ++ (number_bytes 8 meta.root_sequence
    ++ (number_bytes 8 meta.freelist ++ (number_bytes 8 meta.high_water ++ (number_bytes 8 meta.txid ++ (number_bytes 8 sum ++ rest))))))))) = r
    ∙ simp append_assoc in
    let d1 = number_next file _ (at + 16) 4 magic (at + 20) d0 (omega arith) in
    let d2 = number_next file _ (at + 20) 4 version (at + 24) d1 (omega arith) in
    let d3 = number_next file _ (at + 24) 4 meta.page_size (at + 28) d2 (omega arith) in
    let d4 = number_next file _ (at + 28) 4 0 (at + 32) d3 (omega arith) in
    let d5 = number_next file _ (at + 32) 8 meta.root (at + 40) d4 (omega arith) in
    let d6 = number_next file _ (at + 40) 8 meta.root_sequence (at + 48) d5 (omega arith) in
    let d7 = number_next file _ (at + 48) 8 meta.freelist (at + 56) d6 (omega arith) in
    let d8 = number_next file _ (at + 56) 8 meta.high_water (at + 64) d7 (omega arith) in
    let d9 = number_next file _ (at + 64) 8 meta.txid (at + 72) d8 (omega arith) in
    let size_is : size_at file at ≡ meta.page_size = number_read file _ (at + 24) 4 meta.page_size d2 (omega arith) in
    let record_is : take 56 (drop (at + 16) file) ≡ written = part_read file written (number_bytes 8 sum ++ rest) (at + 16) 56 r rl in
    let w1 = part_within file header _ at e within in
    let w2 = part_within file written (number_bytes 8 sum ++ rest) (at + 16) r (omega arith) in
    let w3 = part_within file (number_bytes 8 sum) rest (at + 72) d9 (omega arith) in
    record {
      whole = omega arith;
      magic = number_read file _ (at + 16) 4 magic d0 (omega arith);
      version = number_read file _ (at + 20) 4 version d1 (omega arith);
      sum = number_read file rest (at + 72) 8 sum d9 (fnv_of-small written) ∙ sym (ap fnv_of record_is);
      size = subst IsPageSize (sym size_is) fit.size;
      place = elim place [ inl z ↦ inl z | inr p ↦ inr (p ∙ sym size_is) ];
      fields = same_meta meta (meta_fields file at) (sym size_is)
          (sym (number_read file _ (at + 32) 8 meta.root d4 fit.root))
          (sym (number_read file _ (at + 40) 8 meta.root_sequence d5 fit.sequence))
          (sym (number_read file _ (at + 48) 8 meta.freelist d6 fit.freelist))
          (sym (number_read file _ (at + 56) 8 meta.high_water d7 fit.high_water))
          (sym (number_read file _ (at + 64) 8 meta.txid d8 fit.txid));
    }

-- its header is that of a meta page with this number
pub meta_header_written : (file rest : List ℕ) (at number : ℕ) (meta : Meta) → drop at file ≡ meta_bytes number meta ++ rest
    → number < 2 ^ 64 → at ≤ length file → IsTrue (is_meta_header file at number)
unfolding meta_bytes
meta_header_written file rest at number meta h small within =
    let header : List ℕ = header_bytes number kind.Meta 0 0 in
    let e : drop at file ≡ header ++ (meta_record meta ++ (number_bytes 8 (fnv_of (meta_record meta)) ++ rest)) = h ∙ simp append_assoc in
    let long = length-header_bytes number kind.Meta 0 0 in
    let whole = part_within file header _ at e within in
    let (is, behind) = header_written (drop at file) _ number kind.Meta 0 0 e (record { id = small; count = omega arith; overflow = omega arith }) in
    rw (le-leb (at + 16) (length file) (omega arith), eq-eqb _ _ is.id, eq-eqb _ _ is.flags) refl

-- of two metas the one with the greater transaction id is active
pub chosen_of : (file : List ℕ) (page_size : ℕ) (older one : Meta) → IsMeta file 0 older → IsMeta file page_size one → older.page_size ≡ page_size
    → older.txid < one.txid → IsActive file One one
chosen_of file page_size older one first second size newer = grind (arith, newer_one)
