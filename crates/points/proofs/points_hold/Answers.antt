-- Each point computes to what the requirements say.
use mathlib.Core.Path.{refl}
use Rattle.laws.specs.Scan.{first_below, all_below, any_below, fold_below}
use Rattle.laws.specs.Pair.{precedes}
use Rattle.laws.specs.Digits.{ones_below}
use Rattle.laws.specs.Overlay.{overlay, put_at}
use Rattle.kinds.specs.State.{no_keys, no_sub, no_entry}
use Rattle.rules.specs.House.{count_ok, table_ok, rest_ok, house_ok, even_table, is_site, home_of, is_key, tx_of, coordinator_of, serial_of, is_tx}
use Rattle.rules.specs.House.{mask_of, in_mask, is_mask, participants, replies_wanted, whole_house}
use Rattle.rules.specs.Desk.{is_desk, write_limit}
use Rattle.rules.specs.Value.{value_words, value_at, put_value, fits, values_fit}
use Rattle.rules.specs.Message.{entry_offset, message_words, entry_count, message_head, message_entries, to_coordinator, coordinator_end}
use Rattle.rules.specs.Message.{carries_clock, argument_ok, most_entries, ends_ok, head_ok, entry_before, entry_ok, message_shape, message_ok}
use Rattle.rules.specs.Record.{write_offset, record_words, record_head, record_writes, pair_ok, part_head_ok, state_head_ok, merged_head_ok}
use Rattle.rules.specs.Record.{key_ascends, part_write_ok, merged_write_ok, record_shape, part_ok, state_ok, merged_ok}
use Rattle.rules.specs.Keys.{key_place, wrote_key, read_key, wrote_value, with_read, with_write, common_key, dependent, lesser_key, least_key}
use Rattle.rules.specs.Keys.{key_from, sorted_key, sorted_count, sorted_words, keys_at, keys_ok}
use Rattle.rules.specs.Live.{free_place, is_part_of, place_of, is_held, other_holds, key_held, is_prepared, is_queued, all_heard}
use Rattle.rules.specs.History.{remembered, forgotten, is_forgotten, within, walk, search_in, is_newer, recall_place, forget_into}
use Rattle.rules.specs.Queue.{queued_before, comes_first, better_place, least_queued, is_installable, state_bound, state_number}
use Rattle.rules.specs.Valid.{course_ok, desk_ok, sub_ok, counters_ok, live_ok, history_ok, site_ok, held_ok}
use Rattle.rules.specs.Valid as valids
use Rattle.rules.specs.Effect.{taken_of, turn_at, settle}
use Rattle.rules.specs.Course.{new_sub, raise, head_of, channel_spent, send_to, send_all, quietly, with_participant, enlist_step, is_outstanding}
use Rattle.rules.specs.Course.{with_reply, abort_step, with_decision, commit_step, decide_step, with_queue_mark, cast_step, with_request}
use Rattle.rules.specs.Course.{prepare_step}
use Rattle.rules.specs.Course.{vote_decides, vote_step, with_stage, prepared_step, certified_step}
use Rattle.rules.specs.Begin.{next_tx, begin_code, begun, begin_of}
use Rattle.rules.specs.Access.{key_code, access_code, read_code, read_version, read_at, read_of, long_code, write_code, write_code_at, late_code}
use Rattle.rules.specs.Access.{written, write_at, write_of, search_of}
use Rattle.rules.specs.Install.{install_code, entry_of, part_head, part_words, base_after, installed_at, install_of, report_code, state_words}
use Rattle.rules.specs.Install.{report_of, fresh_site, start_code, start_of, start_table}
use Rattle.rules.specs.Merger.{merger_out_of, place_words, queued_part, queued_ok, source_ok, merger_ok, merge_part_code, merge_part, merge_state_code}
use Rattle.rules.specs.Merger.{merge_state, merge_code, merge_of, head_at, heads_of, has_head, better_head, least_head, is_due_at, has_part, is_whole_at}
use Rattle.rules.specs.Merger.{is_whole, due_code, part_writes, joined_writes, merged_words, site_words, pop_queue, pop_queue_at, pop_queues}
use Rattle.rules.specs.Merger.{pop_merger_at, pop_merger, emit_due, emit_code, emit_of, fresh_merger, merger_start_code, merger_start_of}
use Rattle.rules.specs.Merger as mergers
use Rattle.rules.specs.MergerWords.{HeadFits, HeadsFit}
use Rattle.rules.specs.Copy.{replay_code, replay_of, value_code, value_of}
use Rattle.rules.specs.Reader.{reader_replay_code, reader_replay_of, standing_words, reader_value_code, reader_value_of, record_bytes_code}
use Rattle.rules.specs.Reader.{record_bytes_of}
use Rattle.rules.specs.Page.{page_code, page_of, offset_code, offset_of, pages_code, places_of, pages_of}
use Rattle.rules.specs.Send.{is_recipient, head_to, words_to, messages_to, step_recipients, counts_low}
use Rattle.laws.specs.Bytes.{word_from, bytes_of, words_in, words_of}
use Rattle.said.specs.Said.{said_of}
use Rattle.points.specs.States.{queued, queue_of, queueing, wrote, read, installed, versions, merging, head_words, first_record}
use Rattle.points.specs.Points.{numbers_of, points, PointsHold}
use lib.Count.{ones, ones_in}
use Rattle.points.proofs.points_hold.Goals as goal

pub returns : goal.returns
unfolding first_below all_below any_below fold_below precedes ones_below overlay put_at no_keys no_sub no_entry count_ok table_ok rest_ok
    house_ok even_table is_site home_of is_key tx_of coordinator_of serial_of is_tx mask_of in_mask is_mask participants replies_wanted whole_house
    is_desk write_limit value_words value_at put_value fits values_fit entry_offset message_words
    entry_count message_head message_entries to_coordinator coordinator_end carries_clock argument_ok most_entries ends_ok head_ok entry_before
    entry_ok message_shape message_ok write_offset record_words record_head record_writes pair_ok part_head_ok state_head_ok merged_head_ok key_ascends
    part_write_ok merged_write_ok record_shape part_ok state_ok merged_ok key_place wrote_key read_key wrote_value with_read with_write common_key
    dependent lesser_key least_key key_from sorted_key sorted_count sorted_words keys_at keys_ok free_place is_part_of place_of is_held other_holds
    key_held is_prepared is_queued all_heard remembered forgotten is_forgotten within walk search_in is_newer recall_place forget_into queued_before
    comes_first better_place least_queued is_installable state_bound state_number course_ok desk_ok sub_ok counters_ok live_ok held_ok history_ok
    site_ok valids.slot_ok taken_of turn_at settle said_of new_sub raise head_of channel_spent send_to send_all quietly with_participant enlist_step
    is_outstanding with_reply abort_step with_decision commit_step decide_step with_queue_mark cast_step with_request prepare_step vote_decides
    vote_step with_stage prepared_step certified_step next_tx begin_code begun begin_of key_code access_code read_code read_version read_at read_of
    long_code write_code write_code_at late_code written write_at write_of search_of install_code entry_of part_head part_words base_after
    installed_at install_of report_code state_words report_of fresh_site start_code start_of start_table merger_out_of place_words queued_part
    queued_ok source_ok merger_ok
    merge_part_code merge_part merge_state_code merge_state merge_code merge_of head_at heads_of has_head better_head least_head is_due_at has_part
    is_whole_at is_whole due_code part_writes joined_writes merged_words site_words pop_queue pop_queue_at pop_queues pop_merger_at pop_merger emit_due
    emit_code emit_of fresh_merger merger_start_code merger_start_of mergers.is_due HeadFits HeadsFit is_recipient head_to words_to messages_to
    step_recipients counts_low queued queue_of queueing wrote read installed versions merging head_words numbers_of points PointsHold ones
    ones_in page_code page_of offset_code offset_of pages_code places_of pages_of word_from bytes_of words_in words_of replay_code replay_of
    value_code value_of reader_replay_code reader_replay_of standing_words reader_value_code reader_value_of
    record_bytes_code record_bytes_of first_record
returns c = refl
