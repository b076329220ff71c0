-- Every example of document 01 comes out as the paper says: both sides compute to the same list.
use mathlib.Core.Path.{◌≡◌, refl}
use mathlib.Core.List.{map}
use Rattle.words.specs.Words.{reserved_map, reserved_all}
use Rattle.config.specs.Setting.{offered_of, geometry_of, config_of, checked_of, setting_of, map_number_of}
use Rattle.config.specs.Accepted.{accepted_of as config_accepted, shaped_of, distances_of, spanned_of}
use Rattle.address.specs.Map.{capacity_of, address_number_of, cell_of, holds_of}
use Rattle.standalone.specs.Standalone.{located_of, to_cell_of}
use Rattle.device.specs.View.{all_closed, marks_of, row_of}
use Rattle.device.specs.Rules.{R7, R12-open, R13-open, R14, R16, requirements, legal_of, carried_of}
use Rattle.ages.specs.Ages.{fresh_of, open_in, row_in, open_rows, aged_of, ages_after, sent_of}
use Rattle.queue.specs.Places.{kind_in, request_in, request_at, get_of, empty_of, stored_of, accept_of, shifted_of, remove_of}
use Rattle.queue.specs.Oldest.{blocked_of, ready_of, oldest_of}
use Rattle.refresh.specs.Counting.{start_of, tick_of, refreshed_of, sound_counters}
use Rattle.refresh.specs.Urgency.{level_of}
use Rattle.plan.specs.Actions.{sound_action}
use Rattle.plan.specs.Plan as plan
use Rattle.plan.specs.Choice.{rules_of, choice_of, current_of}
use Rattle.plan.specs.Slot.{ticked_of, turn_of}
use Rattle.sequencer.specs.Machine.{blank_of, machine_of, step_of}
use Rattle.numbers.specs.Sound.{state_by, fit_by, sound_by}
use Rattle.numbers.specs.Numbers.{record_number_by, room_number_of, request_number_by}
use Rattle.sequencer.specs.Calls.{configured_by, configure_of, queued_request, enqueued_of, request_of, slot_of}
use Rattle.packing.specs.Packing.{word_of, command_word, command_in, report_word}
use Rattle.tape.specs.Writing.{run_bytes, command_bytes, slot_piece, piece_of, tape_after}
use Rattle.sequencer.specs.Batch.{series_of}
use Rattle.examples.specs.Run.{occupied, watched, requested}
use Rattle.examples.specs.Table.{table, answer}

pub examples_hold : map (λ e. answer e.asked) table ≡ map (λ e. e.said) table
unfolding table answer setting_of reserved_all reserved_map offered_of checked_of config_of geometry_of to_cell_of map_number_of located_of address_number_of capacity_of cell_of holds_of all_closed marks_of row_of legal_of requirements R7 R12-open R13-open R14 R16 fresh_of open_in row_in open_rows aged_of ages_after sent_of carried_of empty_of accept_of stored_of remove_of shifted_of get_of request_at request_in kind_in blocked_of ready_of oldest_of start_of tick_of refreshed_of sound_counters level_of sound_action plan.quietly plan.outcome_of plan.tries plan.rest plan.after_pause plan.after_init_refresh plan.read_plan plan.write_plan plan.transfer_plan plan.access_plan plan.taken_plan plan.latency_plan plan.cycle_left plan.refresh_plan plan.plan_of plan.queue_after plan.counters_after rules_of choice_of current_of ticked_of turn_of blank_of machine_of step_of config_accepted shaped_of distances_of spanned_of state_by fit_by sound_by configured_by configure_of record_number_by room_number_of request_number_by queued_request enqueued_of request_of slot_of series_of word_of command_word command_in report_word run_bytes command_bytes slot_piece piece_of tape_after occupied watched requested
examples_hold = refl
