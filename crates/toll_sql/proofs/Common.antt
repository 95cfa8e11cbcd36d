-- Definitions and lemmas that several proofs here use.
pub use Rattle.sqlite.proofs.Callers.{IsPlain, command_of, never_commits, one_permutation, one_step, reads_as, runs_as, statement_of}
pub use Rattle.sqlite.proofs.InsideLemmas.{inside_keeps, keeps_then}
pub use Rattle.sqlite.proofs.StateLemmas.{survives_then, survives_weaker}
pub use Rattle.sqlite.specs.Cast.{cast}
pub use Rattle.sqlite.specs.Change.{created, next_tree}
pub use Rattle.sqlite.specs.Clock.{timed}
pub use Rattle.sqlite.specs.Command.{Command}
pub use Rattle.sqlite.specs.Command.TheVariants.{CreateTable, InsertOr, Select}
pub use Rattle.sqlite.specs.Compile.{table_defined_by}
pub use Rattle.sqlite.specs.Does.{AtPlace, Does, IsKeptAside, OnRows, OnTable, Tally, lacks_sequence}
pub use Rattle.sqlite.specs.Effect.{RefusesQuery, RefusesToAlter, alter_error, edit_error, value_rows}
pub use Rattle.sqlite.specs.Held.{state}
pub use Rattle.sqlite.specs.Kind.{Kind}
pub use Rattle.sqlite.specs.Kind.TheVariants.{Integer}
unfoldable pub use Rattle.sqlite.specs.Listing.{understood}
pub use Rattle.sqlite.specs.Listing.{IsSourceOf, if_select, listing_schema, misses_table, reads_listing}
unfoldable pub use Rattle.sqlite.specs.Ops.{binary, unary}
pub use Rattle.sqlite.specs.Ops.{from_truth, is_true}
unfoldable pub use Rattle.sqlite.specs.Order.{value_cmp}
pub use Rattle.sqlite.specs.Order.{bytes}
pub use Rattle.sqlite.specs.Program.{overlay}
pub use Rattle.sqlite.specs.Query.{IsAnswer, Join, Output, Query, end, inner, key_cmp, left, matches, or_nulls, output}
pub use Rattle.sqlite.specs.Rows.{Gives, Part, Refuses, Task, Then, Written}
pub use Rattle.sqlite.specs.Source.TheVariants.{Values}
unfoldable pub use Rattle.sqlite.specs.State.{ExecutesIn, FailsToQuery, IsNotRun, Shown}
pub use Rattle.sqlite.specs.State.{CommitsShowing, Executes, ExecutesInside, Fails, FailsToShow, HasCause, IsNoStatement, IsTooLate, IsUnchanged, KeepsCounts, RunsAlone, RunsCommand, Shows, ShowsRows, Writes, mode_of, shows_rows, store_error, text_of}
pub use Rattle.sqlite.specs.Steps.{FailsToCommit}
pub use Rattle.sqlite.specs.Term.{Env, Term, col, eval_all, holds, lit, op2}
pub use Rattle.sqlite.specs.Tree.{rowid}
pub use Rattle.sqlite.specs.Values.{bound}
pub use Rattle.sqlite.specs.declared.error.Error.TheVariants.{ExecuteReturnedResults, InvalidQuery}
pub use Rattle.sqlite.specs.declared.types.Value.{Value}
pub use Rattle.sqlite.specs.declared.types.Value.TheVariants.{Blob, Real}
pub use Rattle.sqlite_catalog.specs.Change.{without_index, without_table, without_view}
pub use Rattle.sqlite_resolve.specs.Compile.{compiled}
pub use Rattle.sqlite_resolve.specs.declared.error.CompileError.{CompileError}
pub use Rattle.sqlite_rules.proofs.ListLemmas.{all_has}
pub use Rattle.sqlite_rules.specs.Action.{Work, work_for, works}
pub use Rattle.sqlite_rules.specs.Calls.{ids_of}
pub use Rattle.sqlite_rules.specs.Cast.{cast_row}
pub use Rattle.sqlite_rules.specs.Edit.{Edit, are_fresh, edit_of, id_in, is_taken, next_rowid, put_all, taken_by, with_rowid, without_all}
pub use Rattle.sqlite_rules.specs.Keys.{AreConflicts, aims, conflicts, shares}
pub use Rattle.sqlite_rules.specs.Lists.{Has}
pub use Rattle.sqlite_rules.specs.declared.error.Refusal.{Refusal}
pub use Rattle.sqlite_rules.specs.declared.error.Rowids.TheVariants.{Above, Chosen, Given}
pub use Rattle.sqlite_schema.specs.Rules.{Refers, equal}
pub use Rattle.sqlite_schema.specs.declared.command.Conflict.TheVariants.{Abort, Ignore, Replace}
pub use Rattle.sqlite_schema.specs.declared.command.Returning.{Returning}
pub use Rattle.sqlite_schema.specs.declared.command.Upsert.{Upsert}
pub use Rattle.sqlite_schema.specs.declared.schema.Keys.TheVariants.{Enforced}
pub use Rattle.sqlite_sql.specs.declared.ops.BinaryOp.TheVariants.{Compare, Is}
pub use Rattle.sqlite_sql.specs.declared.ops.CompareOp.TheVariants.{Eq, Le}
unfoldable pub use Rattle.sqlite_tied.specs.Compute.{everything}
pub use Rattle.sqlite_trees.proofs.ListLemmas.{IsPermutation-filter, all-permutation}
pub use Rattle.sqlite_trees.specs.declared.error.StoreError.{StoreError}
pub use Rattle.sqlite_trees.specs.declared.error.StoreError.TheVariants.{Broken, OutOfMemory, Unstorable}
pub use Rattle.sqlite_value.proofs.KeyLemmas.{class_tied, first_key-plain}
pub use Rattle.sqlite_value.proofs.OrderLemmas.{row_cmp_total, value_cmp-Int, value_cmp-Text, value_cmp_total}
pub use Rattle.sqlite_value.specs.Keys.{ascending, first_key}
pub use Rattle.sqlite_value.specs.declared.keys.Key.{Key}
pub use Rattle.std.proofs.Math.Seq.{drop-cons, take-length}
pub use Rattle.std.proofs.lemmas.Bool.{and_from, and_parts, cases_Bool, eq-eqb, eqb-true, or_cases, or_left, or_right}
pub use Rattle.std.proofs.lemmas.Bool.Decides.{nat_tests}
pub use Rattle.std.proofs.lemmas.Cmp.{alike_right, int_cmp_total, on_total, then_total, tied_itself}
pub use Rattle.std.proofs.lemmas.List.{get_or-map, length-map, map-set, map_push, reverse-append, take-append-drop, take_more}
pub use Rattle.std.proofs.lemmas.List.Elements.{All-map, filter_agree}
pub use Rattle.std.proofs.lemmas.List.Sorted.{All-permutation, Contains-permutation, IsPermutation-cons, IsPermutation-filter_both, IsPermutation-map, IsPermutation-middle, IsPermutation-refl, IsPermutation-sym, IsPermutation-trans, ranks_by, sorted_far, sum_by-IsPermutation}
pub use Rattle.std.proofs.lemmas.Map.Lookups.{exact_bytes, exact_signed}
pub use Rattle.std.proofs.lemmas.Result.{IfErr-weaker, IfOk-weaker, on_err_weaker, on_ok_weaker}
pub use Rattle.std.specs.Cmp.{IsTotalOrder}
pub use Rattle.std.specs.Cmp.Lexicographic.{nat_list_cmp_total}
pub use Rattle.std.specs.List.{filter_map, flat_map, list_all, list_any, sum_by}
unfoldable pub use Rattle.std.specs.List.Sorted.{IsStrictlySortedBy}
pub use Rattle.std.specs.Option.{option_to_list}
pub use Rattle.std.specs.Ordering.{int_cmp, is_le, nat_cmp, ordering_reverse, ordering_then}
pub use Rattle.toll_base.proofs.Texts.{batch_cmp_total, equal_of, is_eq-then, pair_cmp_total, requirement_cmp_total, result_cmp_total, same_bytes-exact, same_bytes-refl}
pub use Rattle.toll_base.specs.Keys.{batch_cmp, pair_cmp, requirement_cmp, result_cmp}
pub use Rattle.toll_base.specs.Roles.{role_number}
pub use Rattle.toll_base.specs.Slice.{batch_at, empty_slice, lot_at, material_at, void_at}
pub use Rattle.toll_base.specs.SliceRules.{KeepsRules, is_actual_of}
unfoldable pub use Rattle.toll_base.specs.Table.{put_row, row_at}
pub use Rattle.toll_base.specs.Table.{IsInKeyOrder, insert_row, replace_row}
pub use Rattle.toll_base.specs.Words.{count, is_some_where, none_or}
pub use Rattle.toll_base.specs.declared.decision.Change.{Change}
pub use Rattle.toll_base.specs.declared.decision.Change.TheVariants.{Owner, Put, Unit}
pub use Rattle.toll_base.specs.declared.lot.Edge.{Edge}
pub use Rattle.toll_base.specs.declared.role.Role.TheVariants.{Consumed, Produced}
pub use Rattle.toll_keep.proofs.Calls.{goes_then, read_fault, read_memory, read_ok, reads_then, spared}
pub use Rattle.toll_keep.specs.CallEffects.{CallEffect, IsReading, IsSpared, among-more, closes_keep}
pub use Rattle.toll_keep.specs.Content.{ContentKeepsRules, content_after, knows, slice_of}
pub use Rattle.toll_keep.specs.Holding.{IsEdgeOfSome, IsHolder, is_on}
pub use Rattle.toll_sql.specs.Asked.{AreReadBy, AreReadWith, IsUnreadBy, IsWholeText, ShowsMeta, meta_text}
pub use Rattle.toll_sql.specs.AskedTexts.{all_text, owners_text, unit_text}
pub use Rattle.toll_sql.specs.Asking.{ForContent, ForContentBy, ForIdle, ForSlice, IsFinding, IsLooking, IsProbedAfter, IsQuerying, LeavesStore, memory_or_fault}
pub use Rattle.toll_sql.specs.Bag.{NeverFalls, Rises, SameBag, all_cells, owned_by, place, total}
pub use Rattle.toll_sql.specs.Causes.{IsErrorCaused, Reason, is_disk_fault}
pub use Rattle.toll_sql.specs.Cells.{cells_of, columns_from, fill, fit, is_of_kind, key_cells, key_order}
pub use Rattle.toll_sql.specs.Common.{Actual, AllByRecursion, BatchRow, Binary, Bytes, Closed, Column, Compiled, Content, Damaged, Database, Disk, Error, HasCleanDisk, Held, Index, Int, IsAscending, IsClean, IsShaped, KeepFault, KeepsCommit, LotRow, MaterialRow, Memory, Move, MoveRow, Null, OrderRow, OwnerRow, Receive, RecipeRow, RefusesToRead, RequirementRow, ResultRow, Role, Row, Schema, Scrap, Ship, Slice, Split, SqliteFailure, State, SublotRow, Survives, Table, TestRow, Text, Trees, UnitRow, VoidRow, agree, bytes_cmp, column, guards, is_eq, is_lt, is_name, match_ordering, empty_content, on, plain, row_cmp, same_bytes, with_row}
pub use Rattle.toll_sql.specs.Create.{AreEmpty, IsMaking, IsNewDatabase, IsShapedAs, IsWholeOrNothing, LeavesMade, MakesAllTables, MakesTable, WritesVersion, begin}
pub use Rattle.toll_sql.specs.EdgeRows.{AreEdgesOf, AreEdgesReadFrom, AreOwnersEdges, HasNoEdge, IsNamedEdge, ShowEdges, ShowsEdge, draws_edges, edge_cells}
pub use Rattle.toll_sql.specs.Encode.{actual_kind, batch_cells, disposition_number, flag, kind_number, lot_cells, material_cells, meta_cells, move_cells, move_lot, move_material, move_number, move_order, move_segment, move_sublot, move_target, order_cells, origin_number, origin_order, owner_cells, recipe_cells, requirement_cells, result_cells, state_number, sublot_cells, test_cells, unit_cells, void_cells}
pub use Rattle.toll_sql.specs.First.{AreFirst, HasVersion, HasVersionRow, HaveNeitherVersion, IsFirst, IsVersionIn, Raised, as_second, first_ours, first_version, meta_rows}
pub use Rattle.toll_sql.specs.FromFiles.{IsLeftIn, IsUnclosed, fault_of_files}
pub use Rattle.toll_sql.specs.Fronts.{IsStoredAs, front_slice}
pub use Rattle.toll_sql.specs.Given.{IsGiven}
pub use Rattle.toll_sql.specs.HolderRows.{AreBatchRows, HasNoBatch, IsHolderOf, IsRowOfBatch, IsShownIn, ReportsHolder, ShowHolders, batch_columns, open_on}
pub use Rattle.toll_sql.specs.Holds.{HasRows, Holds, HoldsAll, HoldsEach, HoldsFor, HoldsPart, HoldsSlice, NameOwners, NamesOwner, version}
pub use Rattle.toll_sql.specs.Kinds.{AreValidIn, IsRow, PlantKind, RowKind, batch_kind, cells_for, lot_kind, material_kind, move_kind, order_kind, owner_kind, recipe_kind, requirement_kind, result_kind, rows_for, sublot_kind, table_for, test_kind, unit_kind, void_kind}
pub use Rattle.toll_sql.specs.LastPuts.{AreNoted, IsSublotValid, are_putting, is_put_again, is_same, key_for, last_puts, sublot_cmp, sublot_put}
pub use Rattle.toll_sql.specs.Meant.{meaning_by, sql_meaning, sql_part}
pub use Rattle.toll_sql.specs.Opening.{Adopts, Brings, Creates, FindsVersion, HoldsEither, IsForeign, IsQueryInside, IsUnlike, IsUnreadFor, LeavesRaised, LeavesTables, TakesOver, without_limit}
pub use Rattle.toll_sql.specs.Others.{GuardsNone, HasOurs, RefersToNone}
pub use Rattle.toll_sql.specs.Plain.{no_schema}
pub use Rattle.toll_sql.specs.PlantRows.{ForOwners, ShowsRow}
pub use Rattle.toll_sql.specs.Put.{IsRowAdded, Puts, ReplacesOrAdds}
pub use Rattle.toll_sql.specs.Reading.{AreAllTaken, AreTaken, FitsSlice, LacksRoom, LacksRoomIn, ReadsNext, ReadsOn, ReportsOwnerAlone, TakesRows, next_of}
pub use Rattle.toll_sql.specs.Rows.{AreAll, AreOfOwner, AreSorted}
pub use Rattle.toll_sql.specs.Schema.{create_text, earlier, every_table, is_owned, key_columns, made_all, made_before, put_text, select_text, table_of, tree_of, width_of, with_tables}
pub use Rattle.toll_sql.specs.Select.{AreShown, plain_query}
pub use Rattle.toll_sql.specs.Shown.{AreOwnedBy, AreReported, AreRowsIn, AreRowsOf, FirstIs, IsReportedUnknown, IsRowOfOwner, IsUnknownOwner, ShowsOwnRows, tables_of_owners}
pub use Rattle.toll_sql.specs.StoredLaws.{AreStoredOfOwner, AreStoredOfPlant}
pub use Rattle.toll_sql.specs.Stores.{Applies, HasApplied, HoldsBy, HoldsIn, HoldsPartIn, IsApplied, IsOurs, IsReady, IsTransactionStep, IsValidChange, LeavesBy, LeavesIn, LeavesPut, LiesIdle, LiesOpen, MakesPuts, PutsAll, PutsChange, PutsRow, WritesRow, cells_of_change, has_row_key, table_of_change}
pub use Rattle.toll_sql.specs.Valid.{IsBatch, IsLot, IsMaterial, IsMove, IsMovement, IsOrder, IsOrigin, IsOwner, IsRecipe, IsRequirement, IsResult, IsStorable, IsSublot, IsTest, IsUnit, IsVoid}
pub use Rattle.toll_sql.specs.declared.open_fault.OpenFault.{OpenFault}
pub use Rattle.toll_sql.specs.declared.table_kind.TableKind.{TableKind}
pub use Rattle.toll_sql.specs.declared.table_kind.TableKind.TheVariants.{Batches, Lots, Materials, Meta, Moves, Orders, Owners, Recipes, Requirements, Results, Sublots, Tests, Units, Voids}
pub use Rattle.toll_trace.proofs.Drawn.{member_of_row, row_of_member}
pub use Rattle.toll_trace.proofs.Members.{Contains-cases, Contains-filter, Contains-flat_map, Contains-from_filter, Contains-from_flat_map, Contains-from_map, Contains-here, Contains-later, Contains-map, Contains-none, kept_in_order, member_of_all}
pub use Rattle.toll_trace.specs.Edges.{AreEdges, IsActual, IsEdge, Stands}
pub use Rattle.toll_trace.specs.Recorded.{Draws}
pub use mathlib.Core.Bool.{and-true, false≢true, or-false}
