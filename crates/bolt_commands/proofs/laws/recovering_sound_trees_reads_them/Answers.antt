use Rattle.std.proofs.Common.{ℕ, List, false, inl, inr, length, refl, subst}
use Rattle.std.proofs.Math.Logic.{∥∥₁_map}
use Rattle.bolt_format.specs.declared.meta.Meta.{Meta}
use Rattle.bolt_commands.proofs.{EntryNames.bucket_items, SoundNames.gets_the_same, SoundNames.names_the_same}
use Rattle.bolt_commands.proofs.SoundRecovery.{Below, copies_the_same, finds_alike, lists_the_same, names_one, recovers_alike}
use Rattle.bolt_commands.proofs.SoundRepairs.{none_repaired, none_unrepaired, same_repair}
use Rattle.bolt_commands.specs.{CopyAnswers.copy_page_size, JobAnswers.WritesCopy, RepairAnswers.IsRepairedUnder, RepairAnswers.repair_report}
use Rattle.bolt_etcd.specs.Wire.UnreadEntries.{UnreadView}
use Rattle.bolt_recover.specs.Losses.{LostView}
use Rattle.bolt_tree.specs.Listing.{Member}
use Rattle.bolt_job.specs.PlainWords.{owned_path}
use Rattle.bolt_report.specs.{KeyPrefixes.has_key_prefix, MemberNames.begins_so, MemberNames.names_bucket}
use Rattle.bolt_commands.proofs.laws.recovering_sound_trees_reads_them.Goals as goal

pub returns : goal.returns
returns g c =
    let below : Below = record {
      chosen_is_one = c.active_meta_is_one.ensures;
      slot_is_one = c.slot_meta_is_one.ensures;
      listed = c.sound_trees_recover_their_listing.ensures;
      recovered = c.sound_trees_recover_what_they_list.ensures.listing;
      none_lost = c.sound_trees_recover_what_they_list.ensures.losses;
      has_found = c.each_file_has_found_pages.ensures;
      none_found = c.nothing_lost_finds_nothing.ensures;
      has_listing = c.sound_trees_have_a_listing.ensures;
      unrepaired = c.sound_trees_put_nothing_back.ensures;
    } in record {
      list =
          λ file meta trees wanted named shown shown_named hides alone.
          lists_the_same (recovers_alike below file meta trees wanted named shown shown_named hides alone);
      compact = λ file meta trees wanted named shown shown_named hides alone out_old out_new target_old target_new size kind ending same.
          copies_the_same (recovers_alike below file meta trees wanted named shown shown_named hides alone) g.O.Sink g.T.Sink out_old out_new target_old
          target_new size kind ending same;
      keys = λ file meta trees wanted named shown shown_named hides alone job answer whole.
          names_the_same below file meta trees wanted named shown shown_named hides alone answer job.form (begins_so job.prefix.items)
          (has_key_prefix job.prefix.items) (λ e. refl) (owned_path job.path.items) whole;
      buckets = λ file meta trees wanted named shown shown_named hides alone job answer whole.
          names_the_same below file meta trees wanted named shown shown_named hides alone answer job.form names_bucket (λ e. e.is_bucket) bucket_items
          (owned_path job.path.items) whole;
      get =
          λ file meta trees wanted named shown shown_named hides alone job answer.
          gets_the_same below file meta trees wanted named shown shown_named hides alone answer job;
      found_list = λ file meta trees choice shown few. lists_the_same (finds_alike below file meta trees choice shown few);
      found_compact = λ file meta trees choice shown few out_old out_new target_old target_new size kind ending same.
          copies_the_same (finds_alike below file meta trees choice shown few) g.O.Sink g.T.Sink out_old out_new target_old target_new size kind ending
          same;
      repair = λ file meta trees choice shown out_old out_new target_old target_new size kind ending does. elim does [
        | inl made ↦ inl (∥∥₁_map made (λ m.
            let (other, listing, lost, unread_views, back, left_out, is, faults, are, writes) = m in
            let one = names_one below file choice meta shown other is.under in
            let at = subst (λ (m : Meta). IsRepairedUnder file choice false m listing lost unread_views back left_out) one is in
            let (own, lists, is_made, makes, same, leaves, none, no_back, none_left) =
            none_repaired below file meta trees choice listing lost unread_views back left_out at in
            let copies = λ (listing : List Member) (lost : LostView) (unread_views : List UnreadView) (back left_out : ℕ).
            WritesCopy g.O.Sink out_old out_new g.T.Sink target_old target_new kind (copy_page_size size meta) listing meta.root_sequence
            (repair_report faults lost unread_views back left_out (length file)) ending in
            (own, lists, is_made, makes, faults, are, same_repair copies same leaves none no_back none_left (rw one at writes))))
        | inr (why, is, none) ↦ inr (why, none_unrepaired below file meta trees choice shown why is, none)
      ];
    }
