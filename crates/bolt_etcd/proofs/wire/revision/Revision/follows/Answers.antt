use Rattle.std.proofs.Common.{◌≡◌, ◌∙◌, ◌||◌, Bool, true, false, ap, sym}
use Rattle.std.proofs.lemmas.Bool.{cond-false, cond-true}
use Rattle.bolt_etcd.specs.{Check.Follows.creates, Check.Follows.follows, Check.Follows.is_next_of, Wire.Revisions.RevisionView}
use Rattle.bolt_etcd.specs.{Wire.ShownRevisions.shown_decoded, Wire.ShownRevisions.shown_revision}
use Rattle.bolt_etcd.proofs.wire.revision.Revision.follows.Goals as goal

pub returns-then-before : goal.returns-then-before
unfolding follows
returns-then-before c =
    let before = shown_revision c.args.before.now in
    let this = shown_revision c.args.self.now in
    let gone : before.key.deleted ≡ true = ap (λ (v : RevisionView). v.key.deleted) (sym c.decode-before.ensures) ∙ c.if-before.true in
    c.creates.ensures this.stored_key ∙ ap creates c.decode-this.ensures
    ∙ sym (cond-true before.key.deleted (creates this) (this.key.deleted || is_next_of before this) gone)

pub returns-else-this : goal.returns-else-this
unfolding follows
returns-else-this c =
    let before = shown_revision c.args.before.now in
    let this = shown_revision c.args.self.now in
    let there : before.key.deleted ≡ false = ap (λ (v : RevisionView). v.key.deleted) (sym c.decode-before.ensures) ∙ c.if-before.false in
    let put : this.key.deleted ≡ false = ap (λ (v : RevisionView). v.key.deleted) (sym c.decode-this.ensures) ∙ c.if-this.false in
    c.is_next_of.ensures this.stored_key before.stored_key
    ∙ ap (λ (v : RevisionView). is_next_of v (shown_decoded this.stored_key c.decode-this.result)) c.decode-before.ensures
    ∙ ap (is_next_of before) c.decode-this.ensures
    ∙ sym (cond-false before.key.deleted (creates this) (this.key.deleted || is_next_of before this) there ∙ ap (λ (b : Bool). b || is_next_of before this) put)
