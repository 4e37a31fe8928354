-- Every definition that the scripts are computed with: a proof that says `unfolding Open` computes with all of them.
use Rattle.laws.specs.Scan as scan
use Rattle.laws.specs.Pair as pair
use Rattle.laws.specs.Digits as digits
use Rattle.laws.specs.Overlay as overlay
use Rattle.kinds.specs.State as state
use Rattle.rules.specs.House as house
use Rattle.rules.specs.Desk as desk
use Rattle.rules.specs.Value as values
use Rattle.rules.specs.Message as message
use Rattle.rules.specs.Record as records
use Rattle.rules.specs.Keys as keys
use Rattle.rules.specs.Live as live
use Rattle.rules.specs.History as history
use Rattle.rules.specs.Queue as queue
use Rattle.rules.specs.Valid as valid
use Rattle.rules.specs.Effect as effect
use Rattle.rules.specs.Course as course
use Rattle.rules.specs.Send as send
use Rattle.rules.specs.Begin as begin
use Rattle.rules.specs.Access as access
use Rattle.rules.specs.Enlist as enlist
use Rattle.rules.specs.Commit as commit
use Rattle.rules.specs.Certify as certify
use Rattle.rules.specs.Join as join
use Rattle.rules.specs.Deliver as deliver
use Rattle.rules.specs.Install as install
use Rattle.rules.specs.Merger as merger
use Rattle.rules.specs.Copy as copy
use Rattle.rules.specs.World as world
use Rattle.rules.specs.Book as book
use Rattle.played.specs.Script as script
use lib.Count.{ones, ones_in}
use Rattle.played.proofs.Playable.{reachable, playable, all_playable}

unfoldable pub Open : Type 0
unfolding scan.first_below scan.all_below scan.any_below scan.fold_below pair.precedes digits.ones_below overlay.overlay overlay.put_at
    state.no_keys state.no_sub state.no_entry house.count_ok house.table_ok house.rest_ok house.house_ok house.even_table house.is_site house.home_of
    house.is_key house.tx_of house.coordinator_of house.serial_of house.is_tx house.mask_of house.in_mask house.is_mask house.participants
    house.replies_wanted house.whole_house desk.is_desk desk.write_limit values.value_words values.value_at values.put_value values.fits
    values.values_fit message.entry_offset
    message.message_words message.entry_count message.message_head message.message_entries message.to_coordinator message.coordinator_end
    message.carries_clock message.argument_ok message.most_entries message.ends_ok message.head_ok message.entry_before message.entry_ok
    message.entry_possible message.message_shape message.message_ok records.write_offset records.record_words records.record_head
    records.record_writes records.pair_ok records.part_head_ok records.state_head_ok records.merged_head_ok records.key_ascends records.part_write_ok
    records.merged_write_ok records.record_shape records.part_ok records.state_ok records.merged_ok keys.key_place keys.wrote_key keys.read_key
    keys.wrote_value keys.with_read keys.with_write keys.common_key keys.dependent keys.lesser_key keys.least_key keys.key_from keys.sorted_key
    keys.sorted_count keys.sorted_words keys.keys_at keys.keys_ok live.free_place live.is_part_of live.place_of live.is_held live.other_holds
    live.key_held live.is_prepared live.is_queued live.all_heard history.remembered history.forgotten history.is_forgotten history.within
    history.walk history.search_in history.is_newer history.recall_place history.forget_into queue.queued_before
    queue.comes_first queue.better_place queue.least_queued queue.is_installable queue.state_bound queue.state_number valid.course_ok valid.sub_ok
    valid.slot_ok valid.counters_ok valid.live_ok valid.history_ok valid.site_ok valid.desk_ok valid.held_ok valid.gathered_ok valid.lists_ok
    valid.handed_ok effect.taken_of effect.turn_at effect.settle course.new_sub course.raise course.head_of course.channel_spent
    course.send_to course.send_all course.quietly course.with_participant course.enlist_step course.is_outstanding course.with_reply
    course.abort_step course.with_decision course.commit_step course.decide_step course.with_queue_mark course.cast_step course.with_request
    course.prepare_step course.vote_decides course.vote_step course.with_stage course.prepared_step course.certified_step send.is_recipient
    send.head_to send.words_to send.messages_to send.step_recipients send.counts_low begin.next_tx begin.begin_code begin.begun begin.begin_of
    access.key_code access.access_code access.read_code access.read_version access.read_at access.read_of access.long_code access.write_code
    access.write_code_at access.late_code access.written access.write_at access.write_of access.search_of enlist.enlist_code enlist.joiner_code
    enlist.enlist_at enlist.enlist_of commit.request_code commit.commit_code
    commit.request_change commit.is_full commit.commit_change commit.commit_lists commit.commit_of commit.abandon_code commit.abandon_of
    certify.prepared_words certify.installed_words certify.prepared_list certify.installed_list certify.candidates certify.concurrent
    certify.conflicts_at certify.conflicts_with certify.is_recorded certify.uncertain_of certify.vote_of join.lesser_above join.least_above
    join.with_listed join.listed_of join.join_tx join.join_count join.join_words join.joined deliver.arrival_code deliver.next_code deliver.arrived
    deliver.passed deliver.reply_code deliver.join_turn deliver.spoken deliver.join_at deliver.take_join deliver.joined_in_turn
    deliver.take_joined deliver.take_prepare deliver.pass_prepare deliver.conc_in_turn deliver.gather_change deliver.gather_lists deliver.take_conc
    deliver.take_cert deliver.vote_in_turn deliver.take_vote deliver.take_commit deliver.take_abort deliver.take_held deliver.take_other
    deliver.take_kind deliver.message_at deliver.message_of install.install_code install.entry_of install.part_head install.part_words
    install.base_after install.installed_at install.install_of install.report_code install.state_words install.report_of install.fresh_site
    install.start_code install.start_of install.start_table merger.merger_out_of merger.place_words merger.queued_part merger.queued_ok
    merger.source_ok merger.merger_ok merger.merge_part_code merger.merge_part merger.merge_state_code merger.merge_state merger.merge_code
    merger.merge_of merger.head_at merger.heads_of merger.has_head merger.better_head merger.least_head merger.is_due_at merger.is_due merger.has_part
    merger.is_whole_at merger.is_whole merger.due_code merger.part_writes merger.joined_writes merger.merged_words merger.site_words merger.pop_queue
    merger.pop_queue_at merger.pop_queues merger.pop_merger_at merger.pop_merger merger.emit_due merger.emit_code merger.emit_of merger.fresh_merger
    merger.merger_start_code merger.merger_start_of copy.put_writes copy.replay_code copy.replayed copy.replay_of copy.value_code copy.value_of
    copy.copy_start_of world.upd world.fresh_world world.split_words world.messages_in world.site_step world.log_step world.step_taken
    world.merger_step world.copy_step world.merge_step world.replay_step world.step world.run book.book_from script.is_numbered script.sent_at
    script.call_of script.calls_from script.answers_from script.lines_of script.answers_of script.calls_of ones ones_in reachable playable
    all_playable
Open = Unit {0}
