-- Lines of the example H2, of Q10.7, of Q3.7 and of Q12.8, and some that are none.
use Rattle.std.specs.Prelude.{◌≡◌, refl, [], ◌∷◌}
use Rattle.laws.specs.Scan.{fold_below}
use Rattle.lines.specs.declared.Command.TheVariants as command
use Rattle.lines.specs.Line.{line_of, read_on, stepped, took, grown, letter, digit, start, command_of, none_of, one_of, two_of, three_of}
use Rattle.lines.specs.Line.{five_of, many_of, scan_of, place_of, spaced, word_at, table_of}

-- write 1 4294967297 5 700 0
write_line : line_of
    (119 ∷ 114 ∷ 105 ∷ 116 ∷ 101 ∷ 32 ∷ 49 ∷ 32 ∷ 52 ∷ 50 ∷ 57 ∷ 52 ∷ 57 ∷ 54 ∷ 55 ∷ 50 ∷ 57 ∷ 55 ∷ 32 ∷ 53 ∷ 32 ∷ 55 ∷ 48 ∷ 48 ∷ 32 ∷ 48
    ∷ [])
    ≡ command.Write 1 4294967297 5 700 0
unfolding line_of read_on fold_below stepped took grown letter digit start scan_of place_of spaced
    command_of none_of one_of two_of three_of five_of many_of
write_line = refl

-- merge 01
zeros_line : line_of (109 ∷ 101 ∷ 114 ∷ 103 ∷ 101 ∷ 32 ∷ 48 ∷ 49 ∷ []) ≡ command.Merge 1
unfolding line_of read_on fold_below stepped took grown letter digit start scan_of place_of spaced
    command_of none_of one_of two_of three_of five_of many_of
zeros_line = refl

-- emit, and a space behind it
space_line : line_of (101 ∷ 109 ∷ 105 ∷ 116 ∷ 32 ∷ []) ≡ command.Bad
unfolding line_of read_on fold_below stepped took grown letter digit start scan_of place_of spaced
    command_of none_of one_of two_of three_of five_of many_of
space_line = refl

-- begin 1, and begin 1 1: the desk may stand behind the site
begin_line : line_of (98 ∷ 101 ∷ 103 ∷ 105 ∷ 110 ∷ 32 ∷ 49 ∷ []) ≡ command.Begin 1 0
unfolding line_of read_on fold_below stepped took grown letter digit start scan_of place_of spaced
    command_of none_of one_of two_of three_of five_of many_of
begin_line = refl

desk_line : line_of (98 ∷ 101 ∷ 103 ∷ 105 ∷ 110 ∷ 32 ∷ 49 ∷ 32 ∷ 49 ∷ []) ≡ command.Begin 1 1
unfolding line_of read_on fold_below stepped took grown letter digit start scan_of place_of spaced
    command_of none_of one_of two_of three_of five_of many_of
desk_line = refl

-- nothing
empty_line : line_of [] ≡ command.Bad
unfolding line_of read_on fold_below stepped took grown letter digit start scan_of place_of spaced
    command_of none_of one_of two_of three_of five_of many_of
empty_line = refl

-- sites 3, and its table
sites_line : line_of
    (115 ∷ 105 ∷ 116 ∷ 101 ∷ 115 ∷ 32 ∷ 51 ∷ [])
    ≡ command.Sites 3 0
unfolding line_of read_on fold_below stepped took grown letter digit start scan_of place_of spaced
    command_of none_of one_of two_of three_of five_of many_of
sites_line = refl

sites_table : table_of
    (read_on (115 ∷ 105 ∷ 116 ∷ 101 ∷ 115 ∷ 32 ∷ 51 ∷ []) 0 7 start)
    ≡ 0 ∷ 0 ∷ 0 ∷ 0 ∷ 0 ∷ 0 ∷ 0 ∷ 0 ∷ []
unfolding read_on fold_below stepped took grown letter digit start scan_of place_of spaced word_at table_of
sites_table = refl

-- sites 3 0 100 900, and its table
keys_line : line_of
    (115 ∷ 105 ∷ 116 ∷ 101 ∷ 115 ∷ 32 ∷ 51 ∷ 32 ∷ 48 ∷ 32 ∷ 49 ∷ 48 ∷ 48 ∷ 32 ∷ 57 ∷ 48 ∷ 48 ∷ [])
    ≡ command.Sites 3 3
unfolding line_of read_on fold_below stepped took grown letter digit start scan_of place_of spaced
    command_of none_of one_of two_of three_of five_of many_of
keys_line = refl

keys_table : table_of
    (read_on (115 ∷ 105 ∷ 116 ∷ 101 ∷ 115 ∷ 32 ∷ 51 ∷ 32 ∷ 48 ∷ 32 ∷ 49 ∷ 48 ∷ 48 ∷ 32 ∷ 57 ∷ 48 ∷ 48 ∷ []) 0 17 start)
    ≡ 0 ∷ 100 ∷ 900 ∷ 0 ∷ 0 ∷ 0 ∷ 0 ∷ 0 ∷ []
unfolding read_on fold_below stepped took grown letter digit start scan_of place_of spaced word_at table_of
keys_table = refl

-- sites 8 0 1 2 3 4 5 6 7, and its table: eight first keys
eight_line : line_of
    (115 ∷ 105 ∷ 116 ∷ 101 ∷ 115 ∷ 32 ∷ 56 ∷ 32 ∷ 48 ∷ 32 ∷ 49 ∷ 32 ∷ 50 ∷ 32 ∷ 51 ∷ 32 ∷ 52 ∷ 32 ∷ 53 ∷ 32 ∷ 54 ∷ 32 ∷ 55 ∷ [])
    ≡ command.Sites 8 8
unfolding line_of read_on fold_below stepped took grown letter digit start scan_of place_of spaced
    command_of none_of one_of two_of three_of five_of many_of
eight_line = refl

eight_table : table_of
    (read_on (115 ∷ 105 ∷ 116 ∷ 101 ∷ 115 ∷ 32 ∷ 56 ∷ 32 ∷ 48 ∷ 32 ∷ 49 ∷ 32 ∷ 50 ∷ 32 ∷ 51 ∷ 32 ∷ 52 ∷ 32 ∷ 53 ∷ 32 ∷ 54 ∷ 32 ∷
    55 ∷ []) 0 23 start)
    ≡ 0 ∷ 1 ∷ 2 ∷ 3 ∷ 4 ∷ 5 ∷ 6 ∷ 7 ∷ []
unfolding read_on fold_below stepped took grown letter digit start scan_of place_of spaced word_at table_of
eight_table = refl

-- sites 8 0 1 2 3 4 5 6 7 8: ten numbers
nine_line : line_of
    (115 ∷ 105 ∷ 116 ∷ 101 ∷ 115 ∷ 32 ∷ 56 ∷ 32 ∷ 48 ∷ 32 ∷ 49 ∷ 32 ∷ 50 ∷ 32 ∷ 51 ∷ 32 ∷ 52 ∷ 32 ∷ 53 ∷ 32 ∷ 54 ∷ 32 ∷ 55 ∷ 32 ∷ 56 ∷ [])
    ≡ command.Bad
unfolding line_of read_on fold_below stepped took grown letter digit start scan_of place_of spaced
    command_of none_of one_of two_of three_of five_of many_of
nine_line = refl

-- write 1 2 3 4 5: a length other than 0
write_five_line : line_of
    (119 ∷ 114 ∷ 105 ∷ 116 ∷ 101 ∷ 32 ∷ 49 ∷ 32 ∷ 50 ∷ 32 ∷ 51 ∷ 32 ∷ 52 ∷ 32 ∷ 53 ∷ [])
    ≡ command.Write 1 2 3 4 5
unfolding line_of read_on fold_below stepped took grown letter digit start scan_of place_of spaced
    command_of none_of one_of two_of three_of five_of many_of
write_five_line = refl

-- write 1 2 3 4: no length is given
write_four_line : line_of
    (119 ∷ 114 ∷ 105 ∷ 116 ∷ 101 ∷ 32 ∷ 49 ∷ 32 ∷ 50 ∷ 32 ∷ 51 ∷ 32 ∷ 52 ∷ [])
    ≡ command.Bad
unfolding line_of read_on fold_below stepped took grown letter digit start scan_of place_of spaced
    command_of none_of one_of two_of three_of five_of many_of
write_four_line = refl

-- write 1 2 3 4 5 6: only `sites` takes more than five numbers
write_six_line : line_of
    (119 ∷ 114 ∷ 105 ∷ 116 ∷ 101 ∷ 32 ∷ 49 ∷ 32 ∷ 50 ∷ 32 ∷ 51 ∷ 32 ∷ 52 ∷ 32 ∷ 53 ∷ 32 ∷ 54 ∷ [])
    ≡ command.Bad
unfolding line_of read_on fold_below stepped took grown letter digit start scan_of place_of spaced
    command_of none_of one_of two_of three_of five_of many_of
write_six_line = refl
