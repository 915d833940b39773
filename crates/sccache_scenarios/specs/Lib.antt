pub mod ScriptedCalls
