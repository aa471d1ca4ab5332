-- What is read when imports are followed, and why it may be refused (proto3 language guide, "Importing Definitions").
use Rattle.std.specs.Global.{Global}
use Rattle.std.specs.List.{All, Contains}
use Rattle.std.specs.Prelude.{ℕ, ◌≡◌, ◌≤◌, ◌+◌, ◌⊎◌, Bool, true, List, [], ◌∷◌, ◌++◌, map, reverse, length, take, Result, Err, Option, Some, None, IsTrue, String, string_bytes}
use Rattle.pg_lex.specs.Faults.{place_of as lex_place}
use Rattle.pg_lex.specs.Lexes.{lexes, max_len, Refuses as LexRefuses}
use Rattle.pg_lex.specs.Place.{line, column}
use Rattle.pg_lex.specs.Symbol.{Placed}
use Rattle.pg_lex.specs.declared.error.LexError.{LexError}
use Rattle.pg_lex.specs.declared.error.LexError.TheVariants as lex
use Rattle.pg_syntax.specs.Grammar.{Derives}
use Rattle.pg_syntax.specs.Proto3 as grammar
use Rattle.pg_syntax.specs.Refusals.{Reports}
use Rattle.pg_syntax.specs.Tree.{Stands}
use Rattle.pg_syntax.specs.Views as view
use Rattle.pg_syntax.specs.declared.error.SyntaxError.{SyntaxError}
use Rattle.pg_syntax.specs.declared.error.SyntaxError.TheVariants as syntax
use Rattle.pg_syntax.specs.declared.tree as tree
use Rattle.pg_link.specs.declared.error.LinkError as errors
use Rattle.pg_link.specs.declared.error.LinkError.TheVariants as error
use Rattle.pg_link.specs.declared.error.Place as places
use Rattle.pg_link.specs.declared.walk.Asking as askings
use Rattle.pg_link.specs.declared.walk.SourceFile as kept
use Rattle.pg_link.specs.walk.FolderPath.{path_below}
use Rattle.pg_link.specs.names.Files.{Import, File, Differ, InOrder, HasNoCycle, Leads, is_path_of, import_paths, paths_of}
use Rattle.pg_link.specs.names.Names.{Text}
use Rattle.pg_link.specs.names.Outline.{file_imports, file_names}
use Rattle.pg_link.specs.walk.PostOrder.{IsPostOrder}

-- ---- what may be read

-- a source, a folder in it, and the paths at which a walk begins
pub record World : Type 0 where
  pub may_give : Text → Text → Bool
  pub may_lack : Text → Bool
  pub folder : Text
  pub roots : List Text

abbrev pub world : (Text → Text → Bool) → (Text → Bool) → Text → List Text → World
world give lack folder roots = record { may_give = give; may_lack = lack; folder = folder; roots = roots }

-- the source may give these bytes for the path
abbrev pub Gives : World → Text → Text → Type 0
Gives w path text = IsTrue (w.may_give (path_below w.folder path) text)

abbrev pub Lacks : World → Text → Type 0
Lacks w path = IsTrue (w.may_lack (path_below w.folder path))

-- the tree is one of the tokens of these bytes, which are no more than a source file may have
pub record IsParsed (text : Text) (file : tree.FileTree.FileTree) : Type 0 where
  pub short : length text ≤ max_len
  pub tokens : List Placed
  pub has_tokens : lexes text tokens
  pub derives : Derives (grammar.file 64) (view.file file)
  pub stands : Stands (view.file file) tokens

-- the path may have these bytes, and these bytes this tree
pub record MayBe (w : World) (path text : Text) (file : tree.FileTree.FileTree) : Type 0 where
  pub is_given : Gives w path text
  pub is_parsed : IsParsed text file

-- the path may have these bytes, which import another path; the literal of that import begins at this byte
pub record ImportsAt (w : World) (path text : Text) (at : ℕ) (other : Text) : Type 0 where
  pub file : tree.FileTree.FileTree
  pub may_be : MayBe w path text file
  pub front : List Import
  pub line : Import
  pub back : List Import
  pub splits : file_imports file ≡ front ++ line ∷ back
  pub is_at : line.at ≡ at
  pub is_path : line.path ≡ other

abbrev pub MayImport : World → Text → Text → Type 0
MayImport w path other = (text : Text) × (at : ℕ) × ImportsAt w path text at other

-- The path is reached by these, the last first: a root, and then each by an import of the one before.
abbrev pub Comes : World → List Text → Text → Type 0
Comes w [] path = Contains w.roots path
Comes w (p ∷ ps) path = MayImport w p path × Comes w ps p

abbrev pub Reached : World → Text → Type 0
Reached w path = (by : List Text) × Comes w by path

-- going by imports, a path comes to another or stays
pub data MayLead (w : World) (path : Text) : Text → Type 0 where
  Stays : MayLead w path path
  Onwards : {last other : Text} → MayLead w path last → MayImport w last other → MayLead w path other

-- ---- what was read

-- a path, and the bytes and the tree of its file
abbrev pub Entry : Type 0
Entry = String Global × kept.SourceFile

abbrev pub path_of : Entry → Text
path_of e = string_bytes e.0

-- what a file imports and declares
abbrev pub outline : Entry → File
outline e = record { path = path_of e; imports = file_imports e.1.tree; declared = file_names e.1.tree }

-- in the order in which they were read to the end
abbrev pub files_in_order : List Entry → List File
files_in_order = map outline

-- the last first
abbrev pub outlines : List Entry → List File
outlines entries = reverse (map outline entries)

abbrev pub IsEntry : World → Entry → Type 0
IsEntry w e = MayBe w (path_of e) e.1.bytes.items e.1.tree × Reached w (path_of e)

-- by imports of these files a path comes to another, or is it
abbrev pub ComesTo : List File → Text → Text → Type 0
ComesTo files path other = (path ≡ other) ⊎ Leads files path other

-- The files of the roots and of all that they import, and no others, each path once, at most 1,024. The bytes of each
-- are such as the source may give for its path, and each tree is that of its bytes. The files are in post-order of
-- imports, begun at the roots in their order, and so each comes after those that it imports, none of them twice.
pub record IsLinked (w : World) (entries : List Entry) : Type 0 where
  pub each : All (IsEntry w) entries
  pub in_post_order : IsPostOrder w.roots (files_in_order entries)
  pub in_order : InOrder (outlines entries)
  pub apart : Differ (paths_of (outlines entries))
  pub few : length entries ≤ 1024
  pub has_roots : All (λ root. is_path_of (paths_of (outlines entries)) root ≡ true) w.roots
  pub from_roots : (path : Text) → is_path_of (paths_of (outlines entries)) path ≡ true
      → (root : Text) × Contains w.roots root × ComesTo (outlines entries) root path
  pub no_cycle : HasNoCycle (outlines entries)

-- ---- positions

-- the position of this byte of the file
abbrev pub IsPlace : places.Place → Text → Text → ℕ → Type 0
IsPlace place path text at = (string_bytes place.file ≡ path) × (place.line ≡ line (take at text))
    × (place.column ≡ column (take at text))

-- the position that means the file as a whole
abbrev pub IsWhole : places.Place → Text → Type 0
IsWhole place path = (string_bytes place.file ≡ path) × (place.line ≡ 0) × (place.column ≡ 0)

-- the position at which a path is asked for
abbrev pub IsAsked : places.Place → Option askings.Asking → Text → Type 0
IsAsked place None path = IsWhole place path
IsAsked place (Some a) path = IsPlace place a.file.now a.text.now a.at

-- a path is asked for: as a root, by its file's name, or at the literal of an import
abbrev pub IsAskedAt : World → places.Place → Text → Type 0
IsAskedAt w place path = (Contains w.roots path × IsWhole place path)
    ⊎ ((from text : Text) × (at : ℕ) × ImportsAt w from text at path × Reached w from × IsPlace place from text at)

-- ---- refusals

-- the source may give the path and 1,024 others that are reached
pub record IsBeyond (w : World) (path : Text) : Type 0 where
  pub text : Text
  pub is_given : Gives w path text
  pub others : List Text
  pub many : 1024 ≤ length others
  pub apart : Differ (path ∷ others)
  pub each : All (λ other. Reached w other × ((t : Text) × Gives w other t)) others

-- an import, at its position, of a path that this holds of
pub record StandsAt (w : World) (place : places.Place) (P : Text → Text → List Import → Type 0) : Type 0 where
  pub from : Text
  pub text : Text
  pub at : ℕ
  pub path : Text
  pub imports : ImportsAt w from text at path
  pub reached : Reached w from
  pub is_place : IsPlace place from text at
  pub holds : P from path imports.front

-- a file that is read, with a byte of it
pub record StandsIn (w : World) (place : places.Place) (at : ℕ) (P : Text → Type 0) : Type 0 where
  pub path : Text
  pub text : Text
  pub is_given : Gives w path text
  pub reached : Reached w path
  pub is_place : IsPlace place path text at
  pub holds : P text

-- the byte at which the fault is
abbrev pub syntax_place : SyntaxError → ℕ
syntax_place syntax.Memory = 0
syntax_place (syntax.NotProto3 at) = at
syntax_place (syntax.Unexpected at) = at
syntax_place (syntax.Group at) = at
syntax_place (syntax.Extension at) = at
syntax_place (syntax.CustomOption at) = at
syntax_place (syntax.WeakImport at) = at
syntax_place (syntax.NestedTooDeep at) = at

-- these bytes have no tokens, for this reason; that memory ran out is none
abbrev pub HasNoTokens : LexError → Text → Type 0
HasNoTokens e text = (e ≡ lex.Memory → ⊥) × LexRefuses e text

-- no tree spells the tokens of these bytes, for this reason; that memory ran out is none
abbrev pub HasNoTree : SyntaxError → Text → Type 0
HasNoTree e text = (e ≡ syntax.Memory → ⊥)
    × ((tokens : List Placed) × lexes text tokens × Reports (grammar.file 64) (length text) tokens e)

-- a fault of reading a path
abbrev pub IsReadFault : (Text → Bool) → Text → Option askings.Asking → Text → errors.LinkError → Type 0
IsReadFault lack folder asking path (error.MissingFile place) = IsAsked place asking path
    × IsTrue (lack (path_below folder path))
IsReadFault lack folder asking path (error.SourceFailed place) = IsWhole place path
IsReadFault lack folder asking path error.Memory = Unit {0}
IsReadFault lack folder asking path _ = ⊥

-- Each refusal comes only where what it names is there, at its position.
abbrev pub Refuses : World → errors.LinkError → Type 0
-- the source may lack a path that is asked for
Refuses w (error.MissingFile place) = (path : Text) × IsAskedAt w place path × Lacks w path
-- an import of a file that leads back to the one with the import
Refuses w (error.ImportCycle place) = StandsAt w place (λ from path front. MayLead w path from)
-- an import of a path that an import before it in its file has
Refuses w (error.DuplicateImport place) =
    StandsAt w place (λ from path front. is_path_of (import_paths front) path ≡ true)
Refuses w (error.TooManyFiles place) = (path : Text) × IsAskedAt w place path × IsBeyond w path
Refuses w (error.SourceFailed place) = (path : Text) × Reached w path × IsWhole place path
Refuses w (error.Lex e place) = StandsIn w place (lex_place e) (HasNoTokens e)
Refuses w (error.Syntax e place) = StandsIn w place (syntax_place e) (HasNoTree e)
Refuses w error.Memory = Unit {0}
Refuses w _ = ⊥

-- the source's failures in an answer
abbrev pub failures_of : {X : Type 0} → Result X errors.LinkError → ℕ
failures_of (Err (error.SourceFailed place)) = 1
failures_of _ = 0
