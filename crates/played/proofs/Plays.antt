-- The five scripts, computed.
use mathlib.Core.Path.{◌≡◌, refl}
use mathlib.Core.List.{[], ◌∷◌}
use lib.ListN.{take, drop}
use lib.Dec.{lit<}
use Rattle.rules.specs.House.{GoodTable, GoodHouse}
use Rattle.rules.specs.HouseLaws.{table_good, good_start}
use Rattle.rules.specs.World.{Lawful, fresh_world, run}
use Rattle.rules.specs.Book.{book_from}
use Rattle.rules.specs.Desks.{BegunFor}
use Rattle.played.specs.Script.{even, lines_of, answers_from, answers_of}
use Rattle.played.specs.First.{first_script, first_calls}
use Rattle.played.specs.Second.{second_script, second_calls, sends, second_mail, second_book}
use Rattle.played.specs.Third.{third_script, third_calls, third_mail, proofing, whole}
use Rattle.played.specs.Fourth.{fourth_script, fourth_calls, uneven}
use Rattle.played.specs.Fifth.{fifth_script, fifth_calls, fifth_log}
use Rattle.played.proofs.Open.{Open}
use Rattle.played.proofs.Playable.{lawful}

pub first_lawful : Lawful (fresh_world (even 1)) first_calls
unfolding Open first_calls first_script
first_lawful = lawful (fresh_world (even 1)) (lines_of first_script) refl

pub first_answers : answers_from (fresh_world (even 1)) first_calls ≡ answers_of first_script
unfolding Open first_calls first_script
first_answers = refl

pub second_lawful : Lawful (fresh_world (even 2)) second_calls
unfolding Open second_calls second_script
second_lawful = lawful (fresh_world (even 2)) (lines_of second_script) refl

pub second_answers : answers_from (fresh_world (even 2)) second_calls ≡ answers_of second_script
unfolding Open second_calls second_script
second_answers = refl

pub second_mail_lem : (run (fresh_world (even 2)) second_calls).sent ≡ second_mail
unfolding Open second_calls second_script sends second_mail
second_mail_lem = refl

pub second_book_lem : book_from (fresh_world (even 2)) second_calls ≡ second_book
unfolding Open second_calls second_script second_book
second_book_lem = refl

pub third_lawful : Lawful (fresh_world (even 2)) third_calls
unfolding Open third_calls third_script
third_lawful = lawful (fresh_world (even 2)) (lines_of third_script) refl

pub third_answers : answers_from (fresh_world (even 2)) third_calls ≡ answers_of third_script
unfolding Open third_calls third_script
third_answers = refl

pub third_mail_lem : (run (fresh_world (even 2)) third_calls).sent ≡ third_mail
unfolding Open third_calls third_script sends third_mail
third_mail_lem = refl

-- the first call begins `proofing`, the nineteenth `whole`
pub third_proofing : BegunFor (even 2) third_calls proofing 1
unfolding Open third_calls third_script
third_proofing = record { calls = take 0 third_calls; more = drop 1 third_calls; at = 1; split = refl; answers = refl }

pub third_whole : BegunFor (even 2) third_calls whole 0
unfolding Open third_calls third_script
third_whole = record { calls = take 18 third_calls; more = drop 19 third_calls; at = 2; split = refl; answers = refl }

-- its house is good
uneven_table : GoodTable 3 (0 ∷ 700 ∷ 701 ∷ [])
unfolding Open
uneven_table = table_good 3 (0 ∷ 700 ∷ 701 ∷ []) refl

pub uneven_good : GoodHouse uneven
uneven_good = good_start 3 (0 ∷ 700 ∷ 701 ∷ []) (lit< tt) (lit< tt) refl uneven_table

pub fourth_lawful : Lawful (fresh_world uneven) fourth_calls
unfolding Open fourth_calls fourth_script
fourth_lawful = lawful (fresh_world uneven) (lines_of fourth_script) refl

pub fourth_answers : answers_from (fresh_world uneven) fourth_calls ≡ answers_of fourth_script
unfolding Open fourth_calls fourth_script
fourth_answers = refl

pub fifth_lawful : Lawful (fresh_world (even 1)) fifth_calls
unfolding Open fifth_calls fifth_script
fifth_lawful = lawful (fresh_world (even 1)) (lines_of fifth_script) refl

pub fifth_answers : answers_from (fresh_world (even 1)) fifth_calls ≡ answers_of fifth_script
unfolding Open fifth_calls fifth_script
fifth_answers = refl

pub fifth_log_lem : (run (fresh_world (even 1)) fifth_calls).log 1 ≡ fifth_log
unfolding Open fifth_calls fifth_script fifth_log
fifth_log_lem = refl
